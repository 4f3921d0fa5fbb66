-- How many bytes the device's ring holds of a client at most.
use Rattle.std.proofs.Common.{ℕ, ◌+◌, ◌*◌, ◌/◌, ◌^◌, ◌<◌, ◌≤◌, arith}
use Rattle.std.proofs.Math.Nat.{div-lt_iff_lt-mul, mul-le-mul_left, mul-le-mul_right}

-- a number of frames lasts, at the fastest rate of a client and the slowest of a mix, for at most 48 times as many
lasting_most : (frames rate mix : ℕ) → rate ≤ 192000 → 4000 ≤ mix → frames * rate / mix < frames * 48 + 1
lasting_most frames rate mix r m =
    let fast : frames * rate ≤ frames * 192000 = mul-le-mul_left frames r in
    let slow : (frames * 48 + 1) * 4000 ≤ (frames * 48 + 1) * mix = mul-le-mul_left (frames * 48 + 1) m in
    (div-lt_iff_lt-mul {k = mix} {x = frames * rate} {y = frames * 48 + 1} (omega arith)).1 (omega arith)

-- the frames that last as long fit a count of 32 bits, and so do their bytes
pub lasting-frames : (frames rate mix : ℕ) → frames ≤ 2 ^ 19 → rate ≤ 192000 → 4000 ≤ mix → frames * rate / mix ≤ 25165824
lasting-frames frames rate mix few r m = let lasts = lasting_most frames rate mix r m in omega arith

pub lasting-bytes : (frames rate mix bytes : ℕ) → frames ≤ 2 ^ 19 → rate ≤ 192000 → 4000 ≤ mix → bytes ≤ 32 → frames * rate / mix * bytes < 2 ^ 30
lasting-bytes frames rate mix bytes few r m z =
    let within = lasting-frames frames rate mix few r m in
    let most : frames * rate / mix * bytes ≤ 25165824 * bytes = mul-le-mul_right bytes within in
    omega arith

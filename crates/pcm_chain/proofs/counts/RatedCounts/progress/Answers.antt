use Rattle.std.proofs.Common.{◌≡◌, ◌*◌, ◌/◌, ◌-ℤ◌, pos, to_z, w64, FitsSigned, refl, arith}
use Rattle.std.proofs.lemmas.Int.{ints, to_z_pos, to_z-of_z}
use Rattle.pcm_chain.proofs.Counting.{fed-near, place-near}
use Rattle.pcm_chain.proofs.counts.RatedCounts.progress.Goals as goal

pub overflow_cast-result-2 : goal.overflow_cast-result-2
overflow_cast-result-2 c =
    omega (arith, ints, c.fed.ensures, fed-near c.args.self.rate c.args.self.counts c.args.self.near c.args.self.bounded)

pub overflow_sub-result : goal.overflow_sub-result
overflow_sub-result c =
    let rate = c.args.self.rate in
    let counts = c.args.self.counts in
    let fed = fed-near rate counts c.args.self.near c.args.self.bounded in
    let near = place-near rate counts.given c.args.self.near in
    let bounded = c.args.self.bounded in
    let place = counts.given * rate.src / rate.dst in
    let one : to_z w64 c.fed.result ≡ pos c.fed.result = to_z_pos w64 c.fed.result (omega (arith, c.fed.ensures, fed)) in
    let other : to_z w64 place ≡ pos place = to_z_pos w64 place (omega (arith, near, bounded.few)) in
    rw (c.from.ensures, c.from-dst.ensures, one, other) (omega (arith, ints, c.fed.ensures, fed, near, bounded.few))

pub returns : goal.returns
returns c =
    let rate = c.args.self.rate in
    let counts = c.args.self.counts in
    let fed = fed-near rate counts c.args.self.near c.args.self.bounded in
    let near = place-near rate counts.given c.args.self.near in
    let bounded = c.args.self.bounded in
    let place = counts.given * rate.src / rate.dst in
    let one : to_z w64 c.fed.result ≡ pos c.fed.result = to_z_pos w64 c.fed.result (omega (arith, c.fed.ensures, fed)) in
    let other : to_z w64 place ≡ pos place = to_z_pos w64 place (omega (arith, near, bounded.few)) in
    let fits : FitsSigned w64 (pos c.fed.result -ℤ pos place) = omega (arith, ints, c.fed.ensures, fed, near, bounded.few) in
    let told = to_z-of_z w64 (pos c.fed.result -ℤ pos place) fits in
    rw (c.from.ensures, c.from-dst.ensures, one, other) (record {
      phase = refl;
      ahead = omega (arith, ints, told, c.fed.ensures);
    })

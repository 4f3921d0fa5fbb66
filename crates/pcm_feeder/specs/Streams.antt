-- Sound as frames: a list of them, all of time, and samples one after another.
use Rattle.std.specs.Prelude.{◌≡◌, ℕ, ◌*◌, ◌/◌, ℤ, pos, negsuc, List, length, map, take, drop, replicate, ◌++◌, All, slice_index_or, flat_map}
use Rattle.std.specs.List.{range_with_len}
use Rattle.pcm_format.specs.Frames.{Frame}

-- a frame at each place of time
abbrev pub Stream : Type 0
Stream = ℤ → Frame

-- a frame without sound
abbrev pub silence : ℕ → Frame
silence channels = replicate channels (pos 0)

-- a list of frames, silent before its first frame and past its last
abbrev pub stream_of : ℕ → List Frame → Stream
stream_of channels frames (pos place) = slice_index_or frames place (silence channels)
stream_of channels frames (negsuc _) = silence channels

-- the frames of a stream up to a place
abbrev pub frames_until : Stream → ℕ → List Frame
frames_until x n = map (λ k. x (pos k)) (range_with_len 0 n)

-- each frame has one sample per channel
abbrev pub HaveChannels : ℕ → List Frame → Type 0
HaveChannels channels frames = All (λ frame. length frame ≡ channels) frames

-- interleaved samples, cut into frames
abbrev pub frames_of : ℕ → List ℤ → List Frame
frames_of channels samples =
    map (λ k. take channels (drop (k * channels) samples))
    (range_with_len 0 (length samples / channels))

-- the frame at a place of samples that follow others
abbrev pub frame_behind : ℕ → List ℤ → List ℤ → ℕ → Frame
frame_behind channels kept input place =
    stream_of channels (frames_of channels kept ++ frames_of channels input) (pos place)

-- frames as interleaved samples
abbrev pub interleaved : List Frame → List ℤ
interleaved frames = flat_map (λ frame. frame) frames

-- samples with frames written over their front
abbrev pub written : List Frame → List ℤ → List ℤ
written frames samples = interleaved frames ++ drop (length (interleaved frames)) samples

-- the last n frames of silence followed by x
abbrev pub last_frames : ℕ → ℕ → List Frame → List Frame
last_frames channels n x = drop (length x) (replicate n (silence channels) ++ x)

-- as many last frames as before, after more were eaten
abbrev pub moved_on : List Frame → List Frame → List Frame
moved_on tail eaten = drop (length eaten) (tail ++ eaten)

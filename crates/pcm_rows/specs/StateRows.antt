-- What is kept of a desk.
use Rattle.std.specs.Prelude.{true, List, [], ◌∷◌, Option, None, Some}
use Rattle.pcm_format.specs.declared.format.Format.TheVariants.{S16Le}
use Rattle.pcm_format.specs.declared.layout.Layout.TheVariants.{Two}
use Rattle.pcm_oss.specs.declared.event.Way.TheVariants.{Record, Map}
use Rattle.pcm_desk.specs.declared.device.Held.{Held}
use Rattle.pcm_desk.specs.declared.play_book.PlayBook.{PlayBook}
use Rattle.pcm_desk.specs.declared.play_book.PlayState.TheVariants.{Draining}

-- three descriptors: one is shut, one records in slot 2, and one has the mapped slot 15
abbrev pub held_by_three : List (Option Held)
held_by_three = None ∷ Some (record { way = Record; slot = 2 }) ∷ Some (record { way = Map; slot = 15 }) ∷ []

-- a client that has closed: 90 of 100 frames were taken out of its ring, and 98 given to the mix, once a run of 4096 bytes was over
abbrev pub played_to_its_end : PlayBook
played_to_its_end = record {
  opening = record {
    settings = record { format = S16Le; layout = Two; rate = 44100 };
    fragments = record { log = 12; count = 4 };
    trigger = true;
    told = 20;
  };
  volume = 25700;
  state = Draining true;
  written = 400;
  eaten = 90;
  given = 98;
  done = 4096;
  underruns = 1;
  last = 2000;
}

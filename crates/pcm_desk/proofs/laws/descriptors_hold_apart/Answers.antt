use Rattle.pcm_desk.specs.Desk.{desk_at_start}
use Rattle.pcm_desk.proofs.Apart.{apart-after, apart-all, apart-start}
use Rattle.pcm_desk.proofs.laws.descriptors_hold_apart.Goals as goal

pub returns : goal.returns
returns c = record {
  start = apart-start;
  after = apart-after;
  always = λ device events. apart-all device (desk_at_start device) events (apart-start device);
}

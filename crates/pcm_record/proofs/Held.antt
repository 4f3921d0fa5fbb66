-- Which books aren't free.
use Rattle.std.proofs.Common.{◌≡◌, true, false, refl, sym, ap, ◌∙◌}
use Rattle.pcm_rate.specs.declared.rate.Rate.{Rate}
use Rattle.pcm_rate.specs.Rates.{can}
use Rattle.pcm_desk.specs.declared.record_book.RecordBook.{RecordBook}
use Rattle.pcm_desk.specs.declared.run_state.RunState.{RunState}
use Rattle.pcm_desk.specs.declared.run_state.RunState.TheVariants.{Free, Setup, Running}
use Rattle.pcm_desk.specs.RunStates.{is_unheld, is_running}
use Rattle.pcm_desk.specs.RecordSafe.{IsRecordInOrder, IsRecordUnstarted, RecordIsSafe}
use Rattle.pcm_desk.proofs.RecordSafe.{can-none}

-- one that runs
pub running-held : (state : RunState) → is_running state ≡ true → is_unheld state ≡ false
running-held Free runs = absurd (let clash : false ≡ true = runs in cc)
running-held Setup runs = refl
running-held Running runs = refl

-- ---- a free book is safe at every rate, since it counts nothing

free-unstarted : (state : RunState) (book : RecordBook) → is_unheld state ≡ true → IsRecordInOrder state book → IsRecordUnstarted book
free-unstarted Free book free order = order
free-unstarted Setup book free order = order
free-unstarted Running book free order = absurd (let clash : false ≡ true = free in cc)

pub safe-any : (rate now : Rate) (book : RecordBook) → is_unheld book.state ≡ true → RecordIsSafe rate book → RecordIsSafe now book
safe-any rate now book free safe =
    let none = (free-unstarted book.state book free safe.order).captured_none in
    record {
      order = safe.order;
      given = safe.given ∙ ap (can rate) none ∙ can-none rate ∙ sym (ap (can now) none ∙ can-none now);
      read = safe.read;
      fill = safe.fill;
      fragments = safe.fragments;
      told = safe.told;
    }

-- Which books aren't free.
use Rattle.std.proofs.Common.{◌≡◌, true, false, refl, sym, ap, ◌∙◌}
use Rattle.pcm_rate.specs.declared.rate.Rate.{Rate}
use Rattle.pcm_rate.specs.Rates.{need}
use Rattle.pcm_desk.specs.declared.map_book.MapBook.{MapBook}
use Rattle.pcm_desk.specs.declared.run_state.RunState.{RunState}
use Rattle.pcm_desk.specs.declared.run_state.RunState.TheVariants.{Free, Setup, Running}
use Rattle.pcm_desk.specs.RunStates.{is_unheld, is_running}
use Rattle.pcm_desk.specs.MapSafe.{IsMapInOrder, MapIsSafe}

-- one that runs
pub running-held : (state : RunState) → is_running state ≡ true → is_unheld state ≡ false
running-held Free runs = absurd (let clash : false ≡ true = runs in cc)
running-held Setup runs = refl
running-held Running runs = refl

-- one that has given frames
in-order-held : (state : RunState) (book : MapBook) → IsMapInOrder state book → (book.given ≡ 0 → ⊥) → is_unheld state ≡ false
in-order-held Free book order some = absurd (some order)
in-order-held Setup book order some = refl
in-order-held Running book order some = refl

pub given-held : (rate : Rate) (book : MapBook) → MapIsSafe rate book → (book.given ≡ 0 → ⊥) → is_unheld book.state ≡ false
given-held rate book safe some = in-order-held book.state book safe.order some

-- ---- a free book is safe at every rate, since it counts nothing

free-unstarted : (state : RunState) (book : MapBook) → is_unheld state ≡ true → IsMapInOrder state book → book.given ≡ 0
free-unstarted Free book free order = order
free-unstarted Setup book free order = order
free-unstarted Running book free order = absurd (let clash : false ≡ true = free in cc)

pub safe-any : (rate now : Rate) (book : MapBook) → is_unheld book.state ≡ true → MapIsSafe rate book → MapIsSafe now book
safe-any rate now book free safe =
    let none = free-unstarted book.state book free safe.order in
    record {
      order = safe.order;
      taken = safe.taken ∙ ap (need rate) none ∙ sym (ap (need now) none);
      fragments = safe.fragments;
      volume = safe.volume;
      told = safe.told;
    }

use Rattle.std.proofs.Common.{◌≡◌, ℕ, ◌-◌, List, [], length, take, drop, sym, ap, ◌∙◌, subst, arith}
use Rattle.std.proofs.lemmas.List.{append-nil, length-drop}
use Rattle.pcm_save.specs.Parents.{parent_state, HasLoadedParent}
use Rattle.pcm_save.proofs.Joining.{behind}
use Rattle.pcm_engine.proofs.state.load_all.Goals as goal

pub load_parent-requires : goal.load_parent-requires
load_parent-requires g c =
    let made = c.requires.made in
    record {
      bus = record { kinds = made.bus_kinds; planned = made.planned; fits = made.fits; room = omega (arith, c.deref_mut.ensures.len, c.in_ok-past.ensures.len) };
      kinds = made.boxes;
    }

pub returns-clause-loaded : goal.returns-clause-loaded
returns-clause-loaded g c =
    let bytes = c.args.bytes.now in
    let count = c.in_ok-count.count in
    let loaded = c.in_ok-count.ensures.loaded in
    let rest = behind bytes 768 in
    let all : count ≡ length (take (length bytes - 768) (drop 768 bytes)) = omega (arith, loaded.within, c.if-count-rest.false) in
    let Loaded : List ℕ → ℕ → Type 0 = λ from number. HasLoadedParent g.B.Feeder.kind g.B.Feeder.kept g.B.Feeder.mark c.args.tables.now c.args.handed from number c.args.parent.now c.load_parent.new.parent in
    subst (λ (from : List ℕ). Loaded from (length from)) rest (subst (Loaded (take (length bytes - 768) (drop 768 bytes))) all loaded)

pub returns-in_err-count-clause-taken : goal.returns-in_err-count-clause-taken
returns-in_err-count-clause-taken g c = λ saved can is. absurd (c.in_err-count.ensures.taken saved [] can (behind c.args.bytes.now 768 ∙ is ∙ sym (append-nil (parent_state g.B.Feeder.kept saved))))

pub returns-then-count-rest-clause-taken : goal.returns-then-count-rest-clause-taken
returns-then-count-rest-clause-taken g c = λ saved can is.
    let bytes = c.args.bytes.now in
    let left = c.in_ok-count.ensures.taken saved [] can (behind bytes 768 ∙ is ∙ sym (append-nil (parent_state g.B.Feeder.kept saved))) in
    absurd (omega (arith, ap length left, length-drop c.in_ok-count.count (take (length bytes - 768) (drop 768 bytes)), c.if-count-rest.true))

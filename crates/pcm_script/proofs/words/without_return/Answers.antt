use Rattle.std.proofs.Common.{◌≡◌, ◌≢◌, ℕ, List, [], ◌∷◌, ◌++◌, Option, Some, None, Bor, sym, ◌∙◌, ap, eqb, rules, tests}
use Rattle.std.specs.Option.{MatchOption, unwrap_or}
use Rattle.std.proofs.lemmas.Slice.Eq.{strip_suffix_is}
use Rattle.pcm_script.specs.Words.{without_return}
use Rattle.pcm_script.proofs.Cuts.{without_return-append, without_return-other}
use Rattle.pcm_script.proofs.words.without_return.Goals as goal

-- what a suffix that may be there leaves
stripped : (line : Bor (List ℕ)) (front : Option (Bor (List ℕ)))
    → MatchOption front ((b : List ℕ) → line.now ≢ b ++ 13 ∷ []) (λ b. line.now ≡ b.now ++ 13 ∷ [])
    → (unwrap_or front line).now ≡ without_return line.now
stripped line None other = sym (without_return-other line.now other)
stripped line (Some front) same = sym (ap without_return same ∙ without_return-append front.now)

pub returns : goal.returns
returns c =
    let stripped_is = strip_suffix_is {E = eqb} (λ a b. search (rules, tests)) c.args.line.now (13 ∷ []) c.strip_suffix.result
    c.strip_suffix.ensures.cases in
    ap (λ b. b.now) c.unwrap_or.ensures ∙ stripped c.args.line c.strip_suffix.result stripped_is

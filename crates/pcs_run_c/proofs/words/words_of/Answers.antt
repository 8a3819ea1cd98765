use Rattle.std.proofs.Common.{arith, ◌≡◌, ◌∷◌, true, ap, map, string_bytes, codes, List, [], ℕ, ◌==◌, if◌then◌else◌, sym, ◌∙◌}
use Rattle.std.proofs.lemmas.Result.{IfOk-weaker}
use Rattle.std.proofs.lemmas.Grind.{common_steps}
use Rattle.std.specs.List.{slice_split}
use Rattle.std.specs.Str.{is_utf8}
use Rattle.std.proofs.lemmas.Str.{is_utf8-from_IsUtf8, IsUtf8-from_is_utf8}
use Rattle.pcs_run_c.specs.Words.{ended, words_in}
use Rattle.pcs_run_c.proofs.words.words_of.Goals as goal

abbrev named_words : List ℕ → List (List ℕ)
named_words text = codes "pcs" ∷ ended (slice_split (λ octet. octet == 0) text)

-- words of what is UTF-8, and of what isn't
of_text : (octets text : List ℕ) → text ≡ octets → is_utf8 octets ≡ true → named_words text ≡ words_in octets
of_text octets text same good = ap named_words same ∙ ap (λ b. if b then named_words octets else []) (sym good)

of_no_text : (octets : List ℕ) → (is_utf8 octets ≡ true → ⊥) → [] ≡ words_in octets
of_no_text octets bad = grind (arith, common_steps)

pub returns-in-Ok : goal.returns-in-Ok
returns-in-Ok c =
    let text = c.in-Ok.ensures.cases in
    let same = of_text c.args.octets.now c.in-Ok.text.now text.0 (is_utf8-from_IsUtf8 c.args.octets.now text.1) in
    IfOk-weaker c.name_and_words.result _ _ (λ words is. is ∙ same) c.name_and_words.ensures

pub returns-in-Err : goal.returns-in-Err
returns-in-Err c = ap (map string_bytes) c.new.ensures.items ∙ of_no_text c.args.octets.now (λ good. c.in-Err.ensures.cases.0 (IsUtf8-from_is_utf8 c.args.octets.now good))

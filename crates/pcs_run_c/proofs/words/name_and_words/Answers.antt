use Rattle.std.proofs.Common.{◌≡◌, ℕ, true, if◌then◌else◌, List, [], ◌∷◌, ◌++◌, map, string_bytes, String, Global, sym, ap, ◌∙◌, append_assoc, append-nil}
use Rattle.std.proofs.lemmas.List.{map-append}
use Rattle.std.specs.declared.str.SplitTerminator.{SplitTerminator}
use Rattle.std.specs.Str.Iter.{split_text, split_has_more, split_terminator_parts, split_terminator_pattern}
use Rattle.pcs_run_c.proofs.WordsLeft.{word_comes, words_end, words_left, words_of_text}
use Rattle.pcs_run_c.proofs.words.name_and_words.Goals as goal

-- at the start the name is there, and all words are to come
begun : (s made : SplitTerminator ℕ) (old new : List (String Global)) (name : String Global) (octets text : List ℕ) → s ≡ made → split_text (split_terminator_parts made) ≡ text
    → split_has_more (split_terminator_parts made) ≡ true → old ≡ [] → new ≡ old ++ (name ∷ []) → string_bytes name ≡ octets
    → map string_bytes new ++ words_left s ≡ octets ∷ words_of_text text
begun s made old new name octets text same is more none pushed named =
    ap (λ t. map string_bytes new ++ words_left t) same
    ∙ ap (λ b. map string_bytes new ++ (if b then words_of_text (split_text (split_terminator_parts made)) else [])) more
    ∙ ap (λ os. map string_bytes new ++ words_of_text os) is
    ∙ ap (λ ws. map string_bytes ws ++ words_of_text text) (pushed ∙ ap (λ ws. ws ++ (name ∷ [])) none)
    ∙ ap (λ os. os ∷ words_of_text text) named

pub loop-word-init : goal.loop-word-init
loop-word-init c =
    let made = c.split_terminator-word-items in
    let same = c.into_iter-word-iterator.ensures.into_iter_gives in
    record {
      pattern = ap split_terminator_pattern same ∙ made.ensures.pattern;
      words = begun _ made.result _ _ _ _ _ same made.ensures.text made.ensures.has_more c.new-words.ensures.items c.in_ok-push.ensures.items c.in_ok-from_str.ensures.ok;
    }

-- a word more is a word less to come
moved : (words new : List (String Global)) (word : String Global) (octets : List ℕ) (left less all : List (List ℕ)) → map string_bytes words ++ left ≡ all → left ≡ octets ∷ less
    → new ≡ words ++ (word ∷ []) → string_bytes word ≡ octets → map string_bytes new ++ less ≡ all
moved words new word octets left less all before come pushed is =
    ap (λ ws. map string_bytes ws ++ less) pushed ∙ ap (λ ws. ws ++ less) (map-append string_bytes words (word ∷ [])) ∙ append_assoc (map string_bytes words) (string_bytes word ∷ []) less
    ∙ ap (λ os. map string_bytes words ++ (os ∷ less)) is ∙ ap (λ ws. map string_bytes words ++ ws) (sym come) ∙ before

pub loop-word-preserved : goal.loop-word-preserved
loop-word-preserved c =
    let come = word_comes c.loop-word.word-iterator c.next.new.self c.in-Some.word c.loop-word.invariant.pattern c.in-Some.ensures.steps in
    record { pattern = come.0; words = moved _ _ _ _ _ _ _ c.loop-word.invariant.words come.1 c.in_ok-push-2.ensures.items c.in_ok-from_str-2.ensures.ok }

pub returns : goal.returns
returns c =
    let end = words_end c.loop-word.word-iterator c.next.new.self c.loop-word.invariant.pattern c.in-None.ensures.steps in
    sym (append-nil (map string_bytes c.loop-word.words.items)) ∙ ap (λ ws. map string_bytes c.loop-word.words.items ++ ws) (sym end) ∙ c.loop-word.invariant.words

use Rattle.std.proofs.Common.{◌≡◌, ◌∷◌, ◌++◌, ◌==◌, map, string_bytes, codes}
use Rattle.std.specs.List.{slice_split}
use Rattle.std.specs.Str.Iter.{split_terminator_pattern}
use Rattle.pcs_run_c.specs.Words.{ended}
use Rattle.pcs_run_c.proofs.WordsLeft.{words_left}
use Rattle.pcs_run_c.proofs.words.name_and_words.Given as goal

abbrev pub invariant-loop-word : goal.invariant-loop-word
invariant-loop-word l = record {
  pattern : split_terminator_pattern l.word-iterator ≡ 0;
  words : map string_bytes l.words.items ++ words_left l.word-iterator ≡ codes "pcs" ∷ ended (slice_split (λ octet. octet == 0) l.text);
}

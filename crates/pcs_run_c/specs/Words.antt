-- The words of a command, in one array of octets.
use Rattle.std.specs.Prelude.{ℕ, ◌==◌, List, [], ◌∷◌, length, codes, if◌then◌else◌}
use Rattle.std.specs.List.{slice_split}
use Rattle.std.specs.Str.{is_utf8}

-- parts, without an empty last one
abbrev pub ended : List (List ℕ) → List (List ℕ)
ended [] = []
ended (part ∷ []) = if length part == 0 then [] else part ∷ []
ended (part ∷ next ∷ parts) = part ∷ ended (next ∷ parts)

-- The program's name, and the parts that zeros end; the octets after the last zero are a part too, where there are any. An array that is
-- no UTF-8 has no words, not even the name.
abbrev pub words_in : List ℕ → List (List ℕ)
words_in octets = if is_utf8 octets then codes "pcs" ∷ ended (slice_split (λ octet. octet == 0) octets) else []

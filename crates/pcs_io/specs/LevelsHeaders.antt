-- The header of a file of levels: thirty-two octets, the last twenty-four of them as in a header of version 2 of a capture.
use Rattle.std.specs.Prelude.{ℕ, Bool, ◌==◌, nat_le, if◌then◌else◌, List, ◌∷◌, ◌++◌, codes, slice_index, Result}
use Rattle.pcs_io.specs.Headers.{Field, first_wrong, header_or, front_fields, range_fields, range_octets, period2_of, skew2_of, AreInRange}
use Rattle.pcs_io.specs.declared.header.BadHeader.{BadHeader}
use Rattle.pcs_io.specs.declared.levels_header.LevelsHeader.{LevelsHeader}

-- the magic, the version, eight lanes, 1 for precoded levels and else 0, a zero, and then the period, the skew and zeros
abbrev pub levels_header_octets : Bool → ℕ → ℕ → List ℕ
levels_header_octets precode period skew = codes "P4LV" ++ 1 ∷ 8 ∷ (if precode then 1 else 0) ∷ 0 ∷ range_octets period skew

abbrev pub levels_fields : List ℕ → List Field
levels_fields octets = front_fields (codes "P4LV") 1 8 octets (
    record { place = 6; right = nat_le (slice_index octets 6) 1 }
    ∷ record { place = 7; right = slice_index octets 7 == 0 } ∷ range_fields octets)

-- the header of thirty-two octets, or what is wrong with them
unfoldable pub levels_header_of : List ℕ → Result LevelsHeader BadHeader
levels_header_of octets =
    header_or (first_wrong (levels_fields octets)) (record { precode = slice_index octets 6 == 1; period = period2_of octets; skew = skew2_of octets })

-- a header that was read, and one that can be written
abbrev pub IsLevelsHeader : LevelsHeader → Type 0
IsLevelsHeader header = AreInRange header.period header.skew

-- The code RS(528,514), as a case of the codes over the field.
use Rattle.std.specs.Prelude.{List, Option}
use Rattle.gf1024.specs.Symbol.{Symbol}
use Rattle.rs_code.specs.Code.{IsCodeword}
use Rattle.rs_code.specs.Near.{codeword_near, codeword_of}

-- a codeword of 528 symbols, fourteen of them parity
abbrev pub IsShortMember : List Symbol → Type 0
IsShortMember c = IsCodeword 14 528 c

-- the short member with the message m from place 14 on
abbrev pub short_coded : List Symbol → List Symbol
short_coded m = codeword_of 14 m

-- the short member at a distance of at most seven from w, or none
abbrev pub short_near : List Symbol → Option (List Symbol)
short_near w = codeword_near 14 528 w 7

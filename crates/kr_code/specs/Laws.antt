-- The laws of the code, as cases of those of any code over the field.
use Rattle.rs_code.specs.Laws.{CodewordsAreDistant, OneIsNear, NearIsTheCodeword, CodedIsTheCodeword}

abbrev pub ShortMembersAreDistant : Type 0
ShortMembersAreDistant = CodewordsAreDistant 14 528

abbrev pub OneShortMemberIsNear : Type 0
OneShortMemberIsNear = OneIsNear 14 528 7

abbrev pub ShortNearIsTheMember : Type 0
ShortNearIsTheMember = NearIsTheCodeword 14 528 7

abbrev pub ShortCodedIsTheMember : Type 0
ShortCodedIsTheMember = CodedIsTheCodeword 14 514

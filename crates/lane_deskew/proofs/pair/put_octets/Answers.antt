use Rattle.std.proofs.Common.{◌≢◌, ◌<◌, length, ◌∙◌, inl, inr, arith, length-set, get_or-set_same, get_or-set_other}
use Rattle.std.proofs.lemmas.Bool.{cases_eq}
use Rattle.lane_deskew.proofs.pair.put_octets.Goals as goal

pub loop-j-preserved : goal.loop-j-preserved
loop-j-preserved c =
    let inv = c.loop-j.invariant in
    let j = c.loop-j.j in
    let low : j < length c.loop-j.octets = omega (arith, inv.size) in
    let new = c.put_octet.ensures in
    record {
      size = length-set _ _ _ ∙ inv.size;
      put = λ k ge lt. elim (cases_eq k j) [
        | inl is ↦ rw is (rw get_or-set_same new.put)
        | inr ne ↦ rw get_or-set_other (inv.put k ge (omega arith))
      ];
      before = λ k lt. let ne : k ≢ j = omega arith in rw get_or-set_other (inv.before k lt);
      behind = λ k le. let ne : k ≢ j = omega arith in rw get_or-set_other (inv.behind k (omega arith));
      beside = λ k v other. elim (cases_eq k j) [
        | inl is ↦ rw is (rw get_or-set_same (new.beside v other ∙ inv.beside j v other))
        | inr ne ↦ rw get_or-set_other (inv.beside k v other)
      ];
    }

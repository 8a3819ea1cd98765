use Rattle.std.proofs.Common.{◌≡◌, ◌≢◌, ◌+◌, ◌-◌, ◌<◌, ◌++◌, ◌∷◌, [], length, drop, get_or, sym, ap, ◌∙◌, inl, inr, arith, below_more, length-set, get_or-set_same, get_or-set_other, length-append, length-drop}
use Rattle.std.proofs.lemmas.Bool.{cases_lt}
use Rattle.std.proofs.lemmas.List.{ext_get_or, get_or_append_left, get_or-append-add, get_or-drop}
use Rattle.lane_lock.proofs.kept.last_octets.Goals as goal

pub loop-i-preserved : goal.loop-i-preserved
loop-i-preserved c =
    let inv = c.loop-i.invariant in
    let low = c.loop-i-test.true in
    record {
      size = length-set _ _ _ ∙ inv.size;
      done = below_more _ _
          (λ k h. let ne : k ≢ c.loop-i.i = omega arith in rw get_or-set_other (inv.done k h))
          (let lt : c.loop-i.i < length c.loop-i.octets = omega (arith, inv.size) in rw get_or-set_same c.octet_at.ensures);
      last = let ne : 15 ≢ c.loop-i.i = omega (arith, low) in rw get_or-set_other inv.last;
    }

pub returns : goal.returns
returns c =
    let items = c.args.kept.now.items in
    let inv = c.loop-i.invariant in
    let most = c.loop-i-test.false in
    let few = c.requires in
    let len = c.len-first.ensures.len in
    let rest = length-drop (length items - 15) items in
    let whole = length-append (drop (length items - 15) items) (c.args.octet ∷ []) in
    ext_get_or 0 _ _ (inv.size ∙ omega (arith, rest, whole, few))
    (λ k low. elim (cases_lt k 15) [
      | inl lt ↦
          inv.done k (omega (arith, lt, most))
          ∙ ap (λ n. get_or items (n - 15 + k) 0) len
          ∙ sym (get_or_append_left (drop (length items - 15) items) (c.args.octet ∷ []) 0 k (omega (arith, rest, few, lt))
          ∙ get_or-drop (length items - 15) items k 0)
      | inr le ↦
          let at : k ≡ length (drop (length items - 15) items) + 0 = omega (arith, low, inv.size, rest, few, le) in
          let end : k ≡ 15 = omega (arith, low, inv.size, le) in
          ap (λ n. get_or c.loop-i.octets n 0) end ∙ inv.last
          ∙ sym (ap (λ n. get_or (drop (length items - 15) items ++ c.args.octet ∷ []) n 0) at
          ∙ get_or-append-add (drop (length items - 15) items) (c.args.octet ∷ []) 0 0)
    ])

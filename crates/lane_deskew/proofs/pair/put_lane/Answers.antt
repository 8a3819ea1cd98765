use Rattle.std.proofs.Common.{◌≡◌, ◌+◌, ◌-◌, ◌++◌, [], length, sym, ap, ◌∙◌, inl, inr, arith, length-append}
use Rattle.std.specs.Prelude.{slice_index, slice_index_or}
use Rattle.std.proofs.lemmas.Bool.{cases_lt}
use Rattle.std.proofs.lemmas.List.{get_or_append_left, get_or-append-add, get_or_past}
use Rattle.lane_deskew.proofs.pair.put_lane.Goals as goal

pub returns-clause-put : goal.returns-clause-put
returns-clause-put c =
    let front = c.args.front.now in
    let back = c.args.back.now in
    let from = c.args.from in
    let ahead = c.min-ahead.result in
    let end = c.min-end.result in
    let whole = length-append front back in
    let ahead_is = c.min-ahead.ensures in
    let end_is = c.min-end.ensures in
    let left = c.saturating_sub.ensures in
    let both = c.saturating_sub-2.ensures in
    let past = c.saturating_sub-first.ensures in
    let old = c.put_octets.ensures in
    let new = c.put_octets-2.ensures in
    λ k low. elim (cases_lt k ahead) [
      | inl lt ↦
          let same : from + (k - 0) ≡ from + k = omega arith in
          ap (λ row. slice_index row c.args.u) (new.before k lt) ∙ old.put k (omega arith) lt
          ∙ ap (λ n. slice_index (slice_index_or front n []) c.args.lane) same
          ∙ sym (ap (λ beat. slice_index beat c.args.lane) (get_or_append_left front back [] (from + k) (omega (arith, lt, ahead_is, left))))
      | inr ge ↦ elim (cases_lt k end) [
        | inl lt ↦
            let at : from + k ≡ length front + (c.saturating_sub-first.result + (k - ahead)) = omega (arith, low, ge, lt, ahead_is, end_is, left, both, past) in
            new.put k ge lt
            ∙ sym (ap (λ n. slice_index (slice_index_or (front ++ back) n []) c.args.lane) at
            ∙ ap (λ beat. slice_index beat c.args.lane) (get_or-append-add front back (c.saturating_sub-first.result + (k - ahead)) []))
        | inr le ↦
            ap (λ row. slice_index row c.args.u) (new.behind k le ∙ old.behind k ge) ∙ c.requires.none k low
            ∙ sym (ap (λ beat. slice_index beat c.args.lane) (get_or_past (front ++ back) (from + k) [] (omega (arith, whole, low, le, end_is, both))))
      ]
    ]

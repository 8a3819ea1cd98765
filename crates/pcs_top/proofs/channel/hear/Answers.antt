use Rattle.std.proofs.Common.{[], ◌∷◌, ◌++◌, ap, refl, ◌∙◌, arith, length-append}
use Rattle.pcs_top.proofs.CountedEvents.{counting-start, counting-next, counting-all}
use Rattle.pcs_top.proofs.channel.hear.Goals as goal

pub loop-event-init : goal.loop-event-init
loop-event-init c = record {
  counting = λ options beats has. counting-start options _ _ _ c.args.beat beats has c.take.ensures.stands;
  corrected = omega (arith, c.requires.waits.corrected, c.has_few_left.ensures, c.take.ensures.beats);
  back = omega (arith, c.requires.waits.back, c.has_few_left.ensures, c.take.ensures.beats);
  beats = c.take.ensures.beats;
}

pub loop-event-preserved : goal.loop-event-preserved
loop-event-preserved c =
    let v = c.loop-event.invariant in
    let answer = rw c.in-Some.is at c.next.ensures.answer in
    let some = rw c.in-Some.is at c.next.ensures.some in
    let fewer = rw c.in-Some.is at c.next.ensures.fewer in
    record {
      counting = λ options beats has.
          counting-next options _ _ _ c.in-Some.event (beats ++ c.args.beat ∷ []) (v.counting options beats has) answer (some refl) _ c.tell.ensures.counts;
      corrected = omega (arith, v.corrected, c.tell.ensures.corrected, fewer refl, ap (λ a. a.beats) c.next.ensures.same);
      back = omega (arith, v.back, c.tell.ensures.back, fewer refl, ap (λ a. a.beats) c.next.ensures.same);
      beats = ap (λ a. a.beats) c.next.ensures.same ∙ v.beats;
    }

pub returns : goal.returns
returns c =
    let v = c.loop-event.invariant in
    let answer = rw c.in_default.is at c.next.ensures.answer in
    let none = rw c.in_default.is at c.next.ensures.none in
    let drained = rw c.in_default.is at c.next.ensures.drained in
    let same = ap (λ a. a.beats) c.next.ensures.same in λ options beats has.
    counting-all options _ _ _ (beats ++ c.args.beat ∷ []) (v.counting options beats has) answer none
    (omega (arith, same, v.beats, has.taken, length-append beats (c.args.beat ∷ [])))
    (record { drained = drained; corrected = omega (arith, v.corrected, same); back = omega (arith, v.back, same) })

use Rattle.std.proofs.Common.{◌≡◌, ℕ, List, [], Some, refl, ap, ◌∙◌, subst, arith, rules}
use Rattle.pcs_watch.specs.Watching.{Seen as Watched}
use Rattle.pcs_top.specs.declared.status.Status.{Status}
use Rattle.pcs_run_c.specs.Running.{HasRun, four_watchers}
use Rattle.pcs_run_c.proofs.running.run_words.Goals as goal

-- the same run, of watchers that are these
of-these : (told these : List Watched) (words : List (List ℕ)) (input text line : List ℕ) (status : Status) → told ≡ these → HasRun told words input text line status
    → HasRun these words input text line status
of-these told these words input text line status same run = subst (λ t. HasRun t words input text line status) same run

pub returns : goal.returns
returns g c =
    let ran = c.run-status.ensures in
    let new = c.run-status.new in
    let before = c.new-source.result in
    let sink = c.in_ok-sink.sink in
    let notes = c.in_ok-notes.notes in
    of-these _ four_watchers _ _ _ _ _ c.requires (record {
      seen = record {
        told_before = record { given = before.given; earlier = before.earlier; left = Some before.left };
        told_after = record { given = new.source.given; earlier = new.source.earlier; left = Some new.source.left };
        ended = new.source.ended;
        reads_before = 0;
        reads_after = 0;
        held_before = Some sink.held;
        held_after = Some new.sink.held;
        writes_before = sink.faults;
        writes_after = new.sink.faults;
      };
      heard = record { held_before = Some notes.held; held_after = Some new.notes.held; writes_before = notes.faults; writes_after = new.notes.faults };
      given =
          ap (λ s. record { given = s.given; earlier = s.earlier; left = Some s.left }) c.new-source.ensures
          ∙ ap (λ octets. record { given = []; earlier = []; left = Some octets }) (search rules);
      tells = refl;
      reads = λ rose. absurd (omega (arith, rose));
      text_before = ap (λ s. Some s.held) c.in_ok-sink.ensures;
      text_after = refl;
      line_before = ap (λ s. Some s.held) c.in_ok-notes.ensures;
      line_after = refl;
      runs = ran.answers;
      complete = ran.complete;
      headline = ran.headline;
      any_damage = ran.any_damage;
    })

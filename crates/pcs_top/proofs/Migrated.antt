-- A capture that was migrated is a capture with the same beats.
use Rattle.std.proofs.Common.{◌≡◌, ℕ, List, [], ◌∷◌, length, refl, ◌∙◌, ap, subst, arith, append-nil}
use Rattle.std.specs.Prelude.{min}
use Rattle.std.specs.List.{flat_map}
use Rattle.pcs_io.specs.Beats.{beat_at}
use Rattle.pcs_io.specs.Grammars.{Begins}
use Rattle.pcs_io.specs.Headers.{IsHeader2, IsInRange}
use Rattle.pcs_io.specs.declared.header.Header.{Header}
use Rattle.pcs_io.proofs.BeatPieces.{pieces-parts}
use Rattle.pcs_io.proofs.HeadersBack.{header2-at}
use Rattle.pcs_receive.specs.Events.{events, column_events}
use Rattle.pcs_top.specs.EventTexts.{capture}
use Rattle.pcs_top.specs.Laws.{CapturesAreMigrated}
use Rattle.pcs_top.specs.Migrating.{header_migrated}
use Rattle.pcs_io.proofs.HeaderRanges.{header-ranged}

same-limit : (most skew own : ℕ) → min most (min skew own) ≡ min (min most skew) own
same-limit most skew own = omega arith

-- beats that octets begin with, and nothing behind them
only-beats : (octets : List ℕ) (beats : List (List ℕ)) (rest : List ℕ) → Begins beat_at octets beats rest → length rest ≡ 0
    → Begins beat_at (flat_map (λ beat. beat) beats) beats []
only-beats octets beats [] b none = subst (λ o. Begins beat_at o beats []) (pieces-parts octets beats [] b ∙ append-nil (flat_map (λ beat. beat) beats)) b
only-beats octets beats (x ∷ rest) b none = absurd (cc)

can-be-written : (skew : ℕ) (header : Header) → IsInRange header → IsHeader2 (header_migrated skew header)
can-be-written skew header is = record { version = refl; least = is.least; most = is.most; skew = omega (arith, is.skew) }

pub is-migrated : CapturesAreMigrated
is-migrated octets header beats skew (rest, (behind, is, begins), none, few) =
    let same = flat_map (λ beat. beat) beats in
    let ranged = header-ranged octets header behind is in
    let now = header_migrated skew header in
    record {
      opens = ([], (same, header2-at now same (can-be-written skew header ranged), only-beats behind beats rest begins none), refl, omega arith);
      events = λ most. ap (λ s. events (capture header.period beats) s 0) (same-limit most skew header.skew);
      column_events = λ most. ap (λ s. column_events (capture header.period beats) s 0) (same-limit most skew header.skew);
    }

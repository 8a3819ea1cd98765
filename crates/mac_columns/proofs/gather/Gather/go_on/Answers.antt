use Rattle.std.proofs.Common.{sym, refl}
use Rattle.mac_columns.specs.Gathering.{after}
use Rattle.mac_columns.specs.Frames.{outcome}
use Rattle.mac_columns.proofs.GatheringLemmas.{is-open, takes-data, takes-end, takes-start, takes-long-data, takes-long-end}
use Rattle.mac_columns.proofs.gather.Gather.go_on.Goals as goal

pub returns-then-append : goal.returns-then-append
returns-then-append c =
    let now = is-open _ _ _ c.self.view_is c.requires in
    rw (
      now.1,
      c.in-Data.is,
      now.0,
      c.if-append.ensures.octets,
      c.deref_mut.ensures.value,
    ) (takes-data _ _ (rw c.deref_mut.ensures.value at (sym c.if-append.ensures.fits)))

pub returns-then-append-2 : goal.returns-then-append-2
returns-then-append-2 c =
    let now = is-open _ _ _ c.self.view_is c.requires in
    rw (
      now.1,
      c.in-End.is,
      c.if-append-2.ensures.octets,
      c.octets.ensures,
      c.deref_mut-in-End.ensures.value,
    ) (takes-end _ _ (rw (c.octets.ensures, c.deref_mut-in-End.ensures.value) at (sym c.if-append-2.ensures.fits)))

pub returns-else-append : goal.returns-else-append
returns-else-append c =
    let now = is-open _ _ _ c.self.view_is c.requires in
    rw (now.1, c.in-Data.is) (takes-long-data _ _ (rw c.deref_mut.ensures.value at (sym c.if-append.ensures.fits)))

pub returns-else-append-2 : goal.returns-else-append-2
returns-else-append-2 c =
    let now = is-open _ _ _ c.self.view_is c.requires in
    rw (
      now.1,
      c.in-End.is,
    ) (takes-long-end _ _ (rw (c.octets.ensures, c.deref_mut-in-End.ensures.value) at (sym c.if-append-2.ensures.fits)))

pub returns-in-Start : goal.returns-in-Start
returns-in-Start c =
    let now = is-open _ _ _ c.self.view_is c.requires in
    rw (now.1, c.in-Start.is, now.0, c.clear.ensures) (takes-start _ _ _ refl)

pub returns-in-Idle : goal.returns-in-Idle
unfolding outcome after
returns-in-Idle c =
    let now = is-open _ _ _ c.self.view_is c.requires in
    rw (now.1, c.in-Idle.is) (record { answers = refl; holds = refl })

pub returns-in-Error : goal.returns-in-Error
unfolding outcome after
returns-in-Error c =
    let now = is-open _ _ _ c.self.view_is c.requires in
    rw (now.1, c.in-Error.is) (record { answers = refl; holds = refl })

pub returns-in-Set : goal.returns-in-Set
unfolding outcome after
returns-in-Set c =
    let now = is-open _ _ _ c.self.view_is c.requires in
    rw (now.1, c.in-Set.is) (record { answers = refl; holds = refl })

use Rattle.std.proofs.Common.{◌≡◌, ◌≤◌, ap, ◌∙◌, ◌+◌, ◌-◌, ◌*◌, ◌++◌, ◌∷◌, [], drop, length, arith}
use Rattle.circular_buffer.specs.Buffer.{keep_last}
use Rattle.lane_lock.specs.Seen.{Stands, state_of, Lock, heard, found_of, silence, last_octets}
use Rattle.lane_lock.proofs.Rows.{kept_octets}
use Rattle.lane_lock.proofs.State.{went_on, found-look}
use Rattle.lane_lock.proofs.LaneLock.take.Goals as goal

pub returns-clause-stands : goal.returns-clause-stands
unfolding Stands state_of
returns-clause-stands c = λ h stands.
    let was = c.self.view_is ∙ stands in
    let e_period : c.self.inside.period ≡ 680 * h.period = ap (λ (l : Lock). l.period) was in
    let e_from : c.self.inside.from ≡ h.from = ap (λ (l : Lock). l.from) was in
    let e_taken : c.self.inside.taken ≡ 8 * length h.octets = ap (λ (l : Lock). l.taken) was in
    let e_kept : c.self.inside.kept.items ≡ keep_last (85 * h.period + 15) (silence ++ h.octets) = ap (λ (l : Lock). l.kept) was in
    let e_room : 8 * c.self.inside.kept.capacity ≡ 680 * h.period + 120 = ap (λ (l : Lock). l.room) was in
    let e_cap : c.self.inside.kept.capacity ≡ 85 * h.period + 15 = omega (arith, e_room) in
    let e_found : c.self.inside.found ≡ found_of h = ap (λ (l : Lock). l.found) was in
    let positive = c.self.invariant.2 in
    let some : 1 ≤ h.period = omega (arith, positive, e_period) in
    let last : c.last_octets-octets.result ≡ last_octets h.octets ++ c.args.octet ∷ [] =
    c.last_octets-octets.ensures
    ∙ ap (λ xs. drop (length xs - 15) xs ++ c.args.octet ∷ []) e_kept
    ∙ ap (λ xs. xs ++ c.args.octet ∷ []) (kept_octets (85 * h.period + 15) h.octets (omega arith)) in
    let after : c.found_next-self-inside.result ≡ found_of (heard h c.args.octet) =
    c.found_next-self-inside.ensures.found
    ∙ rw (e_found, e_taken, e_from, e_period)
    (found-look h c.args.octet c.last_octets-octets.result c.self.inside.kept.items c.first_octets.result c.self.inside.kept.capacity some last e_kept e_cap c.first_octets.ensures) in
    rw (c.push_back.ensures.items, e_room, e_cap, e_kept, e_period, e_from, e_taken) (went_on h c.args.octet c.found_next-self-inside.result after)

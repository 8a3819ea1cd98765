-- What `mux` writes, beat by beat.
use Rattle.std.proofs.Common.{◌≡◌, ℕ, ◌+◌, ◌<◌, Bool, true, List, [], ◌∷◌, ◌++◌, length, Option, sym, ◌∙◌, ap, subst, append_assoc, append-nil}
use Rattle.std.specs.List.{flat_map}
use Rattle.std.proofs.lemmas.List.Concat.{flat_map-append}
use Rattle.bit_lists.specs.Places.{for_each}
use Rattle.pma_link.specs.Levels.{levels, eight, level_beat, level_beats}
use Rattle.pma_link.specs.LevelLaws.{IsBeat}
use Rattle.pma_link.specs.Histories.{MuxStands}
use Rattle.pma_link.specs.declared.mux.Mux.{Mux}
use Rattle.pma_link.proofs.LevelBeats.{level_beats-more, level_beats_go_on}
use Rattle.pcs_io.specs.LevelsHeaders.{levels_header_octets}
use Rattle.pcs_io.specs.Octets.{AppendsFront}
use Rattle.pcs_io.specs.declared.header.Header.{Header}
use Rattle.pcs_drive.specs.CaptureCommand.{BeatsText}
use Rattle.pcs_drive.specs.Tasks.{Meaning, HasPut, Grows}
use Rattle.pcs_drive.specs.Writing.{Wrote, Puts, BreaksOffBefore}
use Rattle.pcs_drive.proofs.WritingLemmas.{front-more}
use Rattle.pcs_late.specs.Multiplexing.{multiplexed, multiplexed_octets, IsMultiplexing}

-- more level beats
behind : (precode : Bool) (header : Header) (beats all : List (List ℕ)) (more : List (List ℕ)) → level_beats precode all ≡ level_beats precode beats ++ more
    → multiplexed_octets precode header all ≡ multiplexed_octets precode header beats ++ flat_map (λ beat. beat) more
behind precode header beats all more is =
    let front = levels_header_octets precode header.period header.skew in
    let so_far = flat_map (λ b. b) (level_beats precode beats) in
    ap (λ bs. front ++ flat_map (λ b. b) bs) is
    ∙ ap (λ o. front ++ o) (flat_map-append (λ b. b) (level_beats precode beats) more)
    ∙ sym (append_assoc front so_far (flat_map (λ b. b) more))

pub no-beats : (precode : Bool) (header : Header) → multiplexed_octets precode header [] ≡ levels_header_octets precode header.period header.skew
unfolding level_beats for_each
no-beats precode header = append-nil (levels_header_octets precode header.period header.skew)

pub multiplexed-grows : (precode : Bool) (header : Header) → Grows (multiplexed precode header)
multiplexed-grows precode header beats more =
    let later = for_each (length more) (λ b. level_beat precode (beats ++ more) (length beats + b)) in
    (flat_map (λ beat. beat) later, behind precode header beats (beats ++ more) later (level_beats-more precode beats more))

-- what a multiplexer gives for a beat
pub record Gives (old new : Mux) (beat more : List ℕ) : Type 0 where
  pub is : IsBeat more
  pub levels : (precode : Bool) (beats : List (List ℕ)) → MuxStands old precode beats
      → (j : ℕ) → j < 8 → levels precode (beats ++ beat ∷ []) j ≡ levels precode beats j ++ eight more j
  pub stands : (precode : Bool) (beats : List (List ℕ)) → MuxStands old precode beats → MuxStands new precode (beats ++ beat ∷ [])

one-more : (old new : Mux) (beat more : List ℕ) → Gives old new beat more → (text : BeatsText) (beats : List (List ℕ))
    → IsMultiplexing old text beats → text.so_far (beats ++ beat ∷ []) ≡ text.so_far beats ++ more
one-more old new beat more gives text beats (precode, header, is, stands) =
    ap (λ (t : BeatsText). t.so_far (beats ++ beat ∷ [])) is
    ∙ behind precode header beats (beats ++ beat ∷ []) (more ∷ [])
    (level_beats_go_on precode beats beat more gives.is (gives.levels precode beats stands))
    ∙ ap (λ o. multiplexed_octets precode header beats ++ o) (append-nil more)
    ∙ ap (λ (t : BeatsText). t.so_far beats ++ more) (sym is)

module _ {T : Type 0} (mux_of : T → Mux) where
  -- a task that has a multiplexer
  abbrev pub Muxes : Meaning T
  Muxes task text beats = IsMultiplexing (mux_of task) text beats

  pub takes : (old new : T) (beat more : List ℕ) (held held_now : Option (List ℕ)) (pending pending_now : List ℕ) → Gives (mux_of old) (mux_of new) beat more
      → Puts held pending more held_now pending_now
      → (text : BeatsText) (beats : List (List ℕ)) (start : Option (List ℕ))
      → HasPut Muxes old text beats start held pending → HasPut Muxes new text (beats ++ beat ∷ []) start held_now pending_now
  takes old new beat more held held_now pending pending_now gives puts text beats start p = record {
    keeps = (p.keeps.0, p.keeps.1, p.keeps.2, gives.stands p.keeps.0 beats p.keeps.3);
    grows = p.grows;
    wrote = subst (λ t. Wrote start held_now t pending_now) (sym (one-more (mux_of old) (mux_of new) beat more gives text beats p.keeps))
        (puts start (text.so_far beats) p.wrote);
  }

  pub breaks : (old new : T) (beat more : List ℕ) (held held_now : Option (List ℕ)) (pending : List ℕ) → Gives (mux_of old) (mux_of new) beat more
      → BreaksOffBefore held pending held_now
      → (text : BeatsText) (beats : List (List ℕ)) (start : Option (List ℕ))
      → HasPut Muxes old text beats start held pending → AppendsFront start held_now (text.so_far (beats ++ beat ∷ []))
  breaks old new beat more held held_now pending gives breaks_off text beats start p =
      subst (AppendsFront start held_now) (sym (one-more (mux_of old) (mux_of new) beat more gives text beats p.keeps))
      (front-more start held_now (text.so_far beats) more (breaks_off start (text.so_far beats) p.wrote))

  pub finished : (old : T) (held : Option (List ℕ)) (pending : List ℕ) (text : BeatsText) (beats : List (List ℕ)) (start : Option (List ℕ))
      → HasPut Muxes old text beats start held pending
      → (true ≡ text.is_aligned beats) × Wrote start held (text.whole beats) pending
  finished old held pending text beats start p = (
    ap (λ (t : BeatsText). t.is_aligned beats) (sym p.keeps.2),
    subst (λ (t : BeatsText). Wrote start held (t.whole beats) pending) (sym p.keeps.2)
        (subst (λ (t : BeatsText). Wrote start held (t.so_far beats) pending) p.keeps.2 p.wrote),
  )

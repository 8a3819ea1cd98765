-- What is seen of the source and the sink of a run.
use Rattle.std.specs.Prelude.{◌≡◌, ℕ, Bool, IsTrue, List, [], ◌++◌, Option, IfSome}
use Rattle.pcs_io.specs.Faults.{Rose}
use Rattle.pcs_io.specs.Octets.{Told, TakesWhereTold}

-- what the source tells, before and after, and whether its end was given; how often its reads failed; what the sink holds; how often its writes failed
pub record Seen : Type 0 where
  pub told_before : Told
  pub told_after : Told
  pub ended : Bool
  pub reads_before : ℕ
  pub reads_after : ℕ
  pub held_before : Option (List ℕ)
  pub held_after : Option (List ℕ)
  pub writes_before : ℕ
  pub writes_after : ℕ

-- by the meanings of the source's and the sink's types, and their values before and after
abbrev pub seen : {R W : Type 0} → (R → Told) → (R → Bool) → (R → ℕ) → (W → Option (List ℕ)) → (W → ℕ) → R → R → W → W → Seen
seen told ended reads held writes source_before source_after sink_before sink_after = record {
  told_before = told source_before;
  told_after = told source_after;
  ended = ended source_after;
  reads_before = reads source_before;
  reads_after = reads source_after;
  held_before = held sink_before;
  held_after = held sink_after;
  writes_before = writes sink_before;
  writes_after = writes sink_after;
}

-- where the sink, which holds this and had so many failures, was not touched
abbrev pub reads_only : {R : Type 0} → (R → Told) → (R → Bool) → (R → ℕ) → R → R → Option (List ℕ) → ℕ → Seen
reads_only told ended reads source_before source_after held writes = record {
  told_before = told source_before;
  told_after = told source_after;
  ended = ended source_after;
  reads_before = reads source_before;
  reads_after = reads source_after;
  held_before = held;
  held_after = held;
  writes_before = writes;
  writes_after = writes;
}

-- the source gave these octets, and where it tells those left before and after, they were taken from their front
abbrev pub Took : Seen → List ℕ → Type 0
Took seen octets = TakesWhereTold seen.told_before seen.told_after octets

-- these octets were taken, and the source has ended behind them
pub record TookAll (seen : Seen) (octets : List ℕ) : Type 0 where
  pub took : Took seen octets
  pub nothing : IfSome seen.told_after.left (λ left. left ≡ [])
  pub ended : IsTrue seen.ended

-- this text was written, where the sink tells before and after
abbrev pub Written : Seen → List ℕ → Type 0
Written seen text = IfSome seen.held_before (λ before. IfSome seen.held_after (λ after. after ≡ before ++ text))

-- this text was written first, where the sink tells before and after
abbrev pub WrittenFirst : Seen → List ℕ → Type 0
WrittenFirst seen text = IfSome seen.held_before (λ before. IfSome seen.held_after (λ after. (more : List ℕ) × (after ≡ before ++ (text ++ more))))

-- nothing was taken or written
pub record Untouched (seen : Seen) : Type 0 where
  pub told : seen.told_after ≡ seen.told_before
  pub held : seen.held_after ≡ seen.held_before

-- a read or a write failed
abbrev pub ReadFailed : Seen → Type 0
ReadFailed seen = Rose seen.reads_before seen.reads_after

abbrev pub WriteFailed : Seen → Type 0
WriteFailed seen = Rose seen.writes_before seen.writes_after

-- the same, from what the sink held at an earlier start
abbrev pub since : Option (List ℕ) → Seen → Seen
since start seen = record seen { held_before = start }

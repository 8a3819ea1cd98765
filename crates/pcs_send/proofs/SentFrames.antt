-- The columns of a transmission have octets, and their frames are those that were handed in.
use Rattle.std.proofs.Common.{◌≡◌, ℕ, zero, suc, ◌*◌, ◌<◌, Bool, true, false, cond, List, [], ◌∷◌, ◌++◌, length, drop, replicate, filter, refl, sym, ap, ◌∙◌, arith, inl, inr, length-drop, append_assoc, All}
use Rattle.std.specs.Prelude.{slice_range, filter_map}
use Rattle.std.specs.List.{AllByRecursion}
use Rattle.std.proofs.lemmas.Bool.{cases_lt, cases_Bool}
use Rattle.mac_columns.specs.declared.column.Column.{Column}
use Rattle.mac_columns.specs.declared.column.Column.TheVariants.{Start, Data, End, Idle, Set}
use Rattle.mac_columns.specs.Columns.{columns_of, columns_of_set, body_of, preamble}
use Rattle.mac_columns.specs.Items.{Item, frame_item, set_item, item_frame}
use Rattle.mac_columns.specs.Frames.{is_within, runs}
use Rattle.mac_columns.proofs.BodyLemmas.{body-more, body-short}
use Rattle.mac_columns.proofs.FrameLemmas.{frames_of-runs}
use Rattle.mac_columns.proofs.CarriedLemmas.{IsFitting, frames_of-items}
use Rattle.block66.specs.Blocks.{HasOctets}
use Rattle.block66.proofs.SentColumns.{columns-octets, set-columns-octets}
use Rattle.rate_match.specs.Kept.{room, kept_count, is_left_out, kept_after, kept}
use Rattle.pcs_send.specs.Transmission.{idles, lacking, begun_columns, sent_columns}
use Rattle.pcs_send.specs.SentFrames.{CanBeSent, columns_of_items, FramesAreSent}
use Rattle.mac_columns.proofs.Erased.{idle_is_no_part, runs-before, runs-behind}

-- ---- what is kept of frames are the same frames with other gaps
record Kept (p : ℕ) (past : List Column) (columns kept_first rest : List Column) : Type 0 where
  after : List Column
  same : kept_after p past (columns ++ rest) ≡ kept_first ++ kept_after p after rest

kept-idles : (p gap : ℕ) (past rest : List Column) → (m : ℕ) × Kept p past (replicate gap Idle) (replicate m Idle) rest
unfolding kept_after
kept-idles p zero past rest = (0, record { after = past; same = refl })
kept-idles p (suc gap) past rest =
    let (m, behind) = kept-idles p gap (Idle ∷ past) rest in
    elim (cases_Bool (is_left_out p (kept_count p past) (length past) Idle)) [
      | inl left ↦ (m, record { after = behind.after; same = rw left behind.same })
      | inr stays ↦ (suc m, record { after = behind.after; same = rw stays (ap (λ cs. Idle ∷ cs) behind.same) })
    ]

kept-body : (p n : ℕ) (frame : List ℕ) (gap : ℕ) (past rest : List Column) → length frame < n → (m : ℕ) × Kept p past (body_of frame gap) (body_of frame m) rest
unfolding kept_after
kept-body p zero frame gap past rest small = absurd (omega arith)
kept-body p (suc n) frame gap past rest small =
    elim (cases_lt (length frame) 8) [
      | inl short ↦
          let (m, behind) = kept-idles p gap (End frame ∷ past) rest in (
            m,
            record {
              after = behind.after;
              same =
                  ap (λ body. kept_after p past (body ++ rest)) (body-short frame gap short)
                  ∙ ap (λ cs. End frame ∷ cs) behind.same
                  ∙ sym (ap (λ body. body ++ kept_after p behind.after rest) (body-short frame m short));
            },
          )
      | inr long ↦
          let first = slice_range frame 0 8 in
          let (m, behind) = kept-body p n (drop 8 frame) gap (Data first ∷ past) rest (omega (arith, length-drop 8 frame)) in (
            m,
            record {
              after = behind.after;
              same =
                  ap (λ body. kept_after p past (body ++ rest)) (body-more frame gap long)
                  ∙ ap (λ cs. Data first ∷ cs) behind.same
                  ∙ sym (ap (λ body. body ++ kept_after p behind.after rest) (body-more frame m long));
            },
          )
    ]

kept-frame : (p : ℕ) (frame : List ℕ) (gap : ℕ) (past rest : List Column) → (m : ℕ) × Kept p past (columns_of frame gap) (columns_of frame m) rest
unfolding kept_after columns_of
kept-frame p frame gap past rest =
    let (m, behind) = kept-body p (suc (length frame)) frame gap (Start preamble ∷ past) rest (omega arith) in
    (m, record { after = behind.after; same = ap (λ cs. Start preamble ∷ cs) behind.same })

kept-set : (p : ℕ) (octets : List ℕ) (gap : ℕ) (past rest : List Column) → (m : ℕ) × Kept p past (columns_of_set octets gap) (columns_of_set octets m) rest
unfolding kept_after columns_of_set
kept-set p octets gap past rest =
    let (m, behind) = kept-idles p gap (Set octets ∷ past) rest in
    (m, record { after = behind.after; same = ap (λ cs. Set octets ∷ cs) behind.same })

fitting-more : (item : Item) (items : List Item) → IsFitting item → All IsFitting items → All IsFitting (item ∷ items)
fitting-more item items first rest zero d low = first
fitting-more item items first rest (suc k) d low = rest k d (omega arith)

-- what is kept of items is other items with the same frames
record KeptItems (p : ℕ) (past : List Column) (items : List Item) : Type 0 where
  others : List Item
  same : kept_after p past (columns_of_items items) ≡ columns_of_items others
  frames : filter_map item_frame others ≡ filter_map item_frame items
  fitting : All IsFitting others

kept-items : (p : ℕ) (items : List Item) (past : List Column) → AllByRecursion CanBeSent items → KeptItems p past items
unfolding kept_after
kept-items p [] past are = record { others = []; same = refl; frames = refl; fitting = λ k d low. absurd (omega arith) }
kept-items p (frame_item octets gap ∷ items) past are =
    let (m, here) = kept-frame p octets gap past (columns_of_items items) in
    let behind = kept-items p items here.after are.1 in
    record {
      others = frame_item octets m ∷ behind.others;
      same = here.same ∙ ap (λ cs. columns_of octets m ++ cs) behind.same;
      frames = ap (λ fs. octets ∷ fs) behind.frames;
      fitting = fitting-more (frame_item octets m) behind.others are.0.1 behind.fitting;
    }
kept-items p (set_item octets gap ∷ items) past are =
    let (m, here) = kept-set p octets gap past (columns_of_items items) in
    let behind = kept-items p items here.after are.1 in
    record {
      others = set_item octets m ∷ behind.others;
      same = here.same ∙ ap (λ cs. columns_of_set octets m ++ cs) behind.same;
      frames = behind.frames;
      fitting = fitting-more (set_item octets m) behind.others tt behind.fitting;
    }

-- ---- octets
all-append : (xs ys : List Column) → AllByRecursion HasOctets xs → AllByRecursion HasOctets ys → AllByRecursion HasOctets (xs ++ ys)
all-append [] ys one two = two
all-append (x ∷ xs) ys one two = (one.0, all-append xs ys one.1 two)

all-idles : (n : ℕ) → AllByRecursion HasOctets (idles n)
all-idles zero = tt
all-idles (suc n) = (tt, all-idles n)

all-kept : (p : ℕ) (past columns : List Column) → AllByRecursion HasOctets columns → AllByRecursion HasOctets (kept_after p past columns)
unfolding kept_after
all-kept p past [] all = tt
all-kept p past (c ∷ columns) all = by (is_left_out p (kept_count p past) (length past) c) (all-kept p (c ∷ past) columns all.1)
  where
    by : (b : Bool) → AllByRecursion HasOctets (kept_after p (c ∷ past) columns)
        → AllByRecursion HasOctets (cond b (kept_after p (c ∷ past) columns) (c ∷ kept_after p (c ∷ past) columns))
    by true rest = rest
    by false rest = (all.0, rest)

-- the columns of a transmission are columns of octets where those that are handed in are
pub sent-octets : (p lead tail : ℕ) (columns : List Column) → AllByRecursion HasOctets columns → AllByRecursion HasOctets (sent_columns p lead tail columns)
unfolding sent_columns begun_columns kept
sent-octets p lead tail columns all =
    let begun = all-append (idles (lead * room p)) (kept_after p [] columns) (all-idles (lead * room p)) (all-kept p [] columns all) in
    let fill = lacking p (length (idles (lead * room p) ++ kept_after p [] columns)) in
    all-append (idles (lead * room p) ++ kept_after p [] columns) (idles fill ++ idles (tail * room p)) begun
    (all-append (idles fill) (idles (tail * room p)) (all-idles fill) (all-idles (tail * room p)))

items-octets : (items : List Item) → AllByRecursion CanBeSent items → AllByRecursion HasOctets (columns_of_items items)
items-octets [] are = tt
items-octets (frame_item octets gap ∷ items) are =
    all-append (columns_of octets gap) (columns_of_items items) (columns-octets octets gap are.0.0) (items-octets items are.1)
items-octets (set_item octets gap ∷ items) are =
    all-append (columns_of_set octets gap) (columns_of_items items) (set-columns-octets octets gap are.0.1 are.0.0) (items-octets items are.1)

-- ---- frames
runs-sent_columns : (p lead tail : ℕ) (columns : List Column) → runs (sent_columns p lead tail columns) ≡ runs (kept p columns)
unfolding sent_columns begun_columns
runs-sent_columns p lead tail columns =
    let front = idles (lead * room p) in
    let fill = lacking p (length (front ++ kept p columns)) in
    ap runs (sym (append_assoc (front ++ kept p columns) (idles fill) (idles (tail * room p))))
    ∙ runs-behind Idle ((front ++ kept p columns) ++ idles fill) (tail * room p) idle_is_no_part
    ∙ runs-behind Idle (front ++ kept p columns) fill idle_is_no_part
    ∙ runs-before Idle (lead * room p) (kept p columns) idle_is_no_part

pub frames-are_sent : (p lead tail : ℕ) (items : List Item) → AllByRecursion CanBeSent items → FramesAreSent p lead tail items
unfolding kept
frames-are_sent p lead tail items are =
    let columns = columns_of_items items in
    let rest = kept-items p items [] are in
    record {
      octets = sent-octets p lead tail columns (items-octets items are);
      all =
          frames_of-runs (sent_columns p lead tail columns)
          ∙ ap (filter is_within) (runs-sent_columns p lead tail columns ∙ ap runs rest.same)
          ∙ sym (frames_of-runs (columns_of_items rest.others))
          ∙ frames_of-items rest.others rest.fitting
          ∙ rest.frames;
    }

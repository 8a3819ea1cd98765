-- Headers and records by their parts, and with more octets behind them.
use Rattle.std.proofs.Common.{◌≡◌, ℕ, ◌+◌, ◌<◌, ◌≤◌, ◌⊎◌, Bool, not, ◌&&◌, ◌==◌, true, false, nat_lt, List, ◌++◌, length, take, drop, Option, Some, None, Result, Ok, Err, refl, sym, ap, ap₂, ◌∙◌, inl, inr, cond, arith, length-append, length-drop, length-take}
use Rattle.std.specs.Prelude.{IfOk}
use Rattle.std.proofs.lemmas.Bool.{cond-true, cond-false, cond_both}
use Rattle.std.proofs.lemmas.Bool.Decides.{nat_tests}
use Rattle.std.proofs.lemmas.List.{take-append-le, drop-append-le, take_all, drop_all}
use Rattle.byteorder.specs.Endian.{big_number, little_number}
use Rattle.byteorder.specs.Numbers.{big_from-append, little_from-append}
use Rattle.pcs_io.specs.declared.header.BadHeader.{BadHeader}
use Rattle.pcap_frames.specs.declared.number.Order.{Order}
use Rattle.pcap_frames.specs.declared.number.Order.TheVariants.{Little, Big}
use Rattle.pcap_frames.specs.declared.fault.RecordKind.{RecordKind}
use Rattle.pcap_frames.specs.declared.fault.RecordKind.TheVariants.{Long, Cut}
use Rattle.pcap_frames.specs.Pcap.{number, is_magic, order_of, linked, order_in, settled, header_at, Whole, Wrong, Short, recorded, original, frame_length, frame_at, RecordAt, record_at, Record, Refused, Open, is_over}

not-less : (n m : ℕ) → m ≤ n → nat_lt n m ≡ false
not-less n m h = grind (arith, nat_tests)

less : (n m : ℕ) → n < m → nat_lt n m ≡ true
less n m h = grind (arith, nat_tests)

at-least : (n m : ℕ) → nat_lt n m ≡ false → m ≤ n
at-least n m h = grind (arith, nat_tests)

fewer : (n m : ℕ) → nat_lt n m ≡ true → n < m
fewer n m h = grind (arith, nat_tests)

chosen : {A : Type 0} (b : Bool) (p q z : A) → cond b p q ≡ z → ((b ≡ true) × (p ≡ z)) ⊎ ((b ≡ false) × (q ≡ z))
chosen true p q z e = inl (refl, e)
chosen false p q z e = inr (refl, e)

number-front : (order : Order) (xs more : List ℕ) (place : ℕ) → place + 4 ≤ length xs → number order (xs ++ more) place ≡ number order xs place
number-front Little xs more place within =
    ap (little_number 4) (drop-append-le place xs more (omega arith)) ∙ little_from-append 4 (drop place xs) more (omega (arith, length-drop place xs))
number-front Big xs more place within =
    ap (big_number 4) (drop-append-le place xs more (omega arith)) ∙ big_from-append 4 (drop place xs) more (omega (arith, length-drop place xs))

length-front : (order : Order) (short : Bool) (xs more : List ℕ) → 16 ≤ length xs → frame_length order short (xs ++ more) ≡ frame_length order short xs
length-front order short xs more within =
    ap₂ (λ recorded original. cond (nat_lt 16384 recorded) (Err Long) (cond (nat_lt recorded original && not short) (Err Cut) (Ok recorded)))
    (number-front order xs more 8 (omega arith)) (number-front order xs more 12 (omega arith))

rest-behind : (n : ℕ) (front behind : List ℕ) → length front ≡ n → drop n (front ++ behind) ≡ behind
rest-behind n front behind whole = drop-append-le n front behind (omega arith) ∙ ap (λ xs. xs ++ behind) (drop_all n front (omega arith))

pub record-split : (order : Order) (short : Bool) (front behind : List ℕ) → length front ≡ 16 → record_at order short (front ++ behind) ≡ frame_at (frame_length order short front) behind
record-split order short front behind whole =
    cond-false (nat_lt (length (front ++ behind)) 16) _ _ (not-less _ _ (omega (arith, length-append front behind)))
    ∙ ap₂ frame_at (length-front order short front behind (omega arith)) (rest-behind 16 front behind whole)

pub frame-whole : (count : ℕ) (piece rest : List ℕ) → length piece ≡ count → frame_at (Ok count) (piece ++ rest) ≡ Record piece rest
frame-whole count piece rest whole =
    cond-false (nat_lt (length (piece ++ rest)) count) _ _ (not-less _ _ (omega (arith, length-append piece rest)))
    ∙ ap₂ Record (take-append-le count piece rest (omega arith) ∙ take_all count piece (omega arith)) (rest-behind count piece rest whole)

-- too few octets for the lengths of a record
pub record-few : (order : Order) (short : Bool) (octets : List ℕ) → length octets < 16 → record_at order short octets ≡ Open
record-few order short octets few = cond-true (nat_lt (length octets) 16) _ _ (less _ _ few)

pub frame-open : (count : ℕ) (octets : List ℕ) → length octets < count → frame_at (Ok count) octets ≡ Open
frame-open count octets few = cond-true (nat_lt (length octets) count) _ _ (less _ _ few)

frame-more : (r : Result ℕ RecordKind) (xs more frame rest : List ℕ) → frame_at r xs ≡ Record frame rest → frame_at r (xs ++ more) ≡ Record frame (rest ++ more)
frame-more (Err kind) xs more frame rest e = absurd (let h : Refused kind ≡ Record frame rest = e in cc)
frame-more (Ok count) xs more frame rest e = elim (chosen (nat_lt (length xs) count) _ _ _ e) [
  | inl p ↦ absurd (let h : Open ≡ Record frame rest = p.1 in cc)
  | inr p ↦ (
      let within = at-least (length xs) count p.0 in
      let same : Record (take count xs) (drop count xs) ≡ Record frame rest = p.1 in
      let first : take count xs ≡ frame = cc in
      let second : drop count xs ≡ rest = cc in
      cond-false (nat_lt (length (xs ++ more)) count) _ _ (not-less _ _ (omega (arith, length-append xs more)))
      ∙ ap₂ Record (take-append-le count xs more within ∙ first) (drop-append-le count xs more within ∙ ap (λ s. s ++ more) second))
]

pub record-more : (order : Order) (short : Bool) (xs more frame rest : List ℕ) → record_at order short xs ≡ Record frame rest → record_at order short (xs ++ more) ≡ Record frame (rest ++ more)
record-more order short xs more frame rest e = elim (chosen (nat_lt (length xs) 16) _ _ _ e) [
  | inl p ↦ absurd (let h : Open ≡ Record frame rest = p.1 in cc)
  | inr p ↦ (
      let within = at-least (length xs) 16 p.0 in
      cond-false (nat_lt (length (xs ++ more)) 16) _ _ (not-less _ _ (omega (arith, length-append xs more)))
      ∙ ap₂ frame_at (length-front order short xs more within) (drop-append-le 16 xs more within)
      ∙ frame-more (frame_length order short xs) (drop 16 xs) more frame rest p.1)
]

-- lengths that can't be stay so, whatever follows
pub refused-more : (order : Order) (short : Bool) (xs more : List ℕ) (kind : RecordKind) → record_at order short xs ≡ Refused kind → record_at order short (xs ++ more) ≡ Refused kind
refused-more order short xs more kind e = elim (chosen (nat_lt (length xs) 16) _ _ _ e) [
  | inl p ↦ absurd (let h : Open ≡ Refused kind = p.1 in cc)
  | inr p ↦ (
      let within = at-least (length xs) 16 p.0 in
      cond-false (nat_lt (length (xs ++ more)) 16) _ _ (not-less _ _ (omega (arith, length-append xs more)))
      ∙ ap₂ frame_at (length-front order short xs more within) refl ∙ still (frame_length order short xs) (drop 16 xs) (drop 16 (xs ++ more)) p.1)
]
  where
    still : (r : Result ℕ RecordKind) (ys zs : List ℕ) → frame_at r ys ≡ Refused kind → frame_at r zs ≡ Refused kind
    still (Err found) ys zs e = e
    still (Ok count) ys zs e = elim (chosen (nat_lt (length ys) count) _ _ _ e) [
      | inl p ↦ absurd (let h : Open ≡ Refused kind = p.1 in cc)
      | inr p ↦ absurd (let h : Record (take count ys) (drop count ys) ≡ Refused kind = p.1 in cc)
    ]

-- what is over stays over, whatever follows
pub still-over : (order : Order) (short : Bool) (xs more : List ℕ) → is_over (record_at order short xs) ≡ true → record_at order short (xs ++ more) ≡ Open → ⊥
still-over order short xs more over none = by (record_at order short xs) refl over
  where
    by : (at : RecordAt) → record_at order short xs ≡ at → is_over at ≡ true → ⊥
    by (Record frame rest) e is = let h : Open ≡ Record frame (rest ++ more) = sym none ∙ record-more order short xs more frame rest e in cc
    by (Refused kind) e is = let h : Open ≡ Refused kind = sym none ∙ refused-more order short xs more kind e in cc
    by Open e is = let h : false ≡ true = is in cc

frame-shorter : (r : Result ℕ RecordKind) (xs frame rest : List ℕ) → frame_at r xs ≡ Record frame rest → length rest ≤ length xs
frame-shorter (Err kind) xs frame rest e = absurd (let h : Refused kind ≡ Record frame rest = e in cc)
frame-shorter (Ok count) xs frame rest e = elim (chosen (nat_lt (length xs) count) _ _ _ e) [
  | inl p ↦ absurd (let h : Open ≡ Record frame rest = p.1 in cc)
  | inr p ↦ (
      let same : Record (take count xs) (drop count xs) ≡ Record frame rest = p.1 in
      let second : drop count xs ≡ rest = cc in
      omega (arith, ap length second, length-drop count xs))
]

-- a record has an octet at least
pub record-shorter : (order : Order) (short : Bool) (xs frame rest : List ℕ) → record_at order short xs ≡ Record frame rest → length rest < length xs
record-shorter order short xs frame rest e = elim (chosen (nat_lt (length xs) 16) _ _ _ e) [
  | inl p ↦ absurd (let h : Open ≡ Record frame rest = p.1 in cc)
  | inr p ↦ (
      let within = at-least (length xs) 16 p.0 in
      let fewer = frame-shorter (frame_length order short xs) (drop 16 xs) frame rest p.1 in
      omega (arith, within, fewer, length-drop 16 xs))
]

order-front : (xs more : List ℕ) → 4 ≤ length xs → order_of (xs ++ more) ≡ order_of xs
order-front xs more within =
    ap₂ (λ big little. cond (is_magic big) (Some Big) (cond (is_magic little) (Some Little) None)) (number-front Big xs more 0 (omega arith)) (number-front Little xs more 0 (omega arith))

linked-front : (o : Option Order) (xs more : List ℕ) → 24 ≤ length xs → linked o (xs ++ more) ≡ linked o xs
linked-front None xs more within = refl
linked-front (Some order) xs more within = ap (λ n. cond (n == 1) (Ok order) (Err (record { place = 20; cut = false }))) (number-front order xs more 20 (omega arith))

order-in-front : (xs more : List ℕ) → 24 ≤ length xs → order_in (xs ++ more) ≡ order_in xs
order-in-front xs more within = ap (λ o. linked o (xs ++ more)) (order-front xs more (omega arith)) ∙ linked-front (order_of xs) xs more within

pub header-split : (front behind : List ℕ) → length front ≡ 24 → header_at (front ++ behind) ≡ settled (order_in front) behind
header-split front behind whole =
    cond-false (nat_lt (length (front ++ behind)) 24) _ _ (not-less _ _ (omega (arith, length-append front behind)))
    ∙ ap₂ settled (order-in-front front behind (omega arith)) (rest-behind 24 front behind whole)

-- a header that isn't whole has fewer octets
pub header-long : (octets : List ℕ) → header_at octets ≡ Short → length octets < 24
header-long octets e = elim (chosen (nat_lt (length octets) 24) _ _ _ e) [
  | inl p ↦ fewer (length octets) 24 p.0
  | inr p ↦ absurd (unsettled (order_in octets) (drop 24 octets) p.1)
]
  where
    unsettled : (r : Result Order BadHeader) (rest : List ℕ) → settled r rest ≡ Short → ⊥
    unsettled (Ok order) rest e = cc
    unsettled (Err bad) rest e = cc

settled-more : (r : Result Order BadHeader) (xs more : List ℕ) (order : Order) (rest : List ℕ) → settled r xs ≡ Whole order rest → settled r (xs ++ more) ≡ Whole order (rest ++ more)
settled-more (Err bad) xs more order rest e = absurd (let h : Wrong bad ≡ Whole order rest = e in cc)
settled-more (Ok found) xs more order rest e =
    let h : Whole found xs ≡ Whole order rest = e in
    let first : found ≡ order = cc in
    let second : xs ≡ rest = cc in
    ap₂ Whole first (ap (λ s. s ++ more) second)

-- a header that is wrong stays so, whatever follows
pub header-stays : (xs more : List ℕ) (bad : BadHeader) → header_at xs ≡ Wrong bad → header_at (xs ++ more) ≡ Wrong bad
header-stays xs more bad e = elim (chosen (nat_lt (length xs) 24) _ _ _ e) [
  | inl p ↦ absurd (let h : Short ≡ Wrong bad = p.1 in cc)
  | inr p ↦ (
      let within = at-least (length xs) 24 p.0 in
      cond-false (nat_lt (length (xs ++ more)) 24) _ _ (not-less _ _ (omega (arith, length-append xs more)))
      ∙ ap₂ settled (order-in-front xs more within) refl ∙ still (order_in xs) (drop 24 xs) (drop 24 (xs ++ more)) p.1)
]
  where
    still : (r : Result Order BadHeader) (ys zs : List ℕ) → settled r ys ≡ Wrong bad → settled r zs ≡ Wrong bad
    still (Err wrong) ys zs e = e
    still (Ok order) ys zs e = absurd (let h : Whole order ys ≡ Wrong bad = e in cc)

pub header-more : (xs more : List ℕ) (order : Order) (rest : List ℕ) → header_at xs ≡ Whole order rest → header_at (xs ++ more) ≡ Whole order (rest ++ more)
header-more xs more order rest e = elim (chosen (nat_lt (length xs) 24) _ _ _ e) [
  | inl p ↦ absurd (let h : Short ≡ Whole order rest = p.1 in cc)
  | inr p ↦ (
      let within = at-least (length xs) 24 p.0 in
      cond-false (nat_lt (length (xs ++ more)) 24) _ _ (not-less _ _ (omega (arith, length-append xs more)))
      ∙ ap₂ settled (order-in-front xs more within) (drop-append-le 24 xs more within)
      ∙ settled-more (order_in xs) (drop 24 xs) more order rest p.1)
]

length-within : (order : Order) (short : Bool) (xs : List ℕ) → IfOk (frame_length order short xs) (λ count. count ≤ 16384)
length-within order short xs =
    let fits = λ (r : Result ℕ RecordKind). IfOk r (λ count. count ≤ 16384) in
    cond_both (nat_lt 16384 (recorded order xs)) _ _ fits (λ _. tt)
    (λ low. cond_both (nat_lt (recorded order xs) (original order xs) && not short) _ _ fits (λ _. tt) (λ _. at-least 16384 (recorded order xs) low))

frame-fits : (r : Result ℕ RecordKind) (xs frame rest : List ℕ) → IfOk r (λ count. count ≤ 16384) → frame_at r xs ≡ Record frame rest → length frame ≤ 16384
frame-fits (Err kind) xs frame rest within e = absurd (let h : Refused kind ≡ Record frame rest = e in cc)
frame-fits (Ok count) xs frame rest within e = elim (chosen (nat_lt (length xs) count) _ _ _ e) [
  | inl p ↦ absurd (let h : Open ≡ Record frame rest = p.1 in cc)
  | inr p ↦ (
      let same : Record (take count xs) (drop count xs) ≡ Record frame rest = p.1 in
      let first : take count xs ≡ frame = cc in
      omega (arith, ap length first, length-take count xs, within))
]

-- a frame is no longer than it may be
pub record-fits : (order : Order) (short : Bool) (xs frame rest : List ℕ) → record_at order short xs ≡ Record frame rest → length frame ≤ 16384
record-fits order short xs frame rest e = elim (chosen (nat_lt (length xs) 16) _ _ _ e) [
  | inl p ↦ absurd (let h : Open ≡ Record frame rest = p.1 in cc)
  | inr p ↦ frame-fits (frame_length order short xs) (drop 16 xs) frame rest (length-within order short xs) p.1
]

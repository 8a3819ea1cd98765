-- In each grammar of lines no line goes on behind a newline.
use Rattle.std.proofs.Common.{◌≡◌, ℕ, zero, suc, ◌+◌, ◌-◌, ◌*◌, ◌==◌, ◌&&◌, nat_lt, nat_le, ◌⊎◌, inl, inr, Bool, true, false, cond, List, [], ◌∷◌, ◌++◌, length, sym, refl, subst, arith, Contains, Result, Ok, Err}
use Rattle.std.specs.Char.{is_ascii_digit, is_ascii_hexdigit, is_digit}
use Rattle.hex.specs.Hex.{decode_of}
use Rattle.hex.specs.declared.error.FromHexError.{FromHexError}
use Rattle.pcs_io.specs.Grammars.{LineAt, Line, Refused, Open}
use Rattle.pcs_io.specs.FrameLines.{frame_line_at, gap_at, content_at, digits_at, line_of, set_at, set_of}
use Rattle.pcs_io.specs.BlockLines.{block_line_at, second_at, space_at, payload_at, block_of_digits}
use Rattle.pcs_io.specs.SymbolLines.{symbol_line_at, symbols_at, is_width, is_too_great, numbers_of}
use Rattle.pcs_io.specs.TextLines.{text_line_at, text_at, text_of}

-- octets with a newline among them are no open line
abbrev pub EndsAtNewline : {X : Type 0} → (List ℕ → LineAt X) → Type 0
EndsAtNewline line_at = (octets : List ℕ) → Contains octets 10 → line_at octets ≡ Open → ⊥

-- it is settled what stands there
abbrev IsSettled : {X : Type 0} → LineAt X → Type 0
IsSettled (Line line rest) = Unit {0}
IsSettled (Refused kind) = Unit {0}
IsSettled Open = ⊥

-- the first octet is a newline, or there is one among the others
abbrev HasNewline : List ℕ → Type 0
HasNewline [] = ⊥
HasNewline (x ∷ xs) = (x ≡ 10) ⊎ HasNewline xs

has-newline : (xs : List ℕ) → Contains xs 10 → HasNewline xs
has-newline [] (place, within, is) = absurd (omega (arith, within))
has-newline (x ∷ xs) (zero, within, is) = inl is
has-newline (x ∷ xs) (suc place, within, is) = inr (has-newline xs (place, omega (arith, within), is))

not-open : {X : Type 0} (at : LineAt X) → IsSettled at → at ≡ Open → ⊥
not-open at settled is = subst IsSettled is settled

either : {X : Type 0} (b : Bool) (p q : LineAt X) → IsSettled p → IsSettled q → IsSettled (cond b p q)
either true p q s t = s
either false p q s t = t

-- ---- frame lines
line-settled : (gap : ℕ) (r : Result (List ℕ) FromHexError) (rest : List ℕ) → IsSettled (line_of gap r rest)
line-settled gap (Ok frame) rest = tt
line-settled gap (Err e) rest = tt

digits-settled : (xs : List ℕ) (gap : ℕ) (ds : List ℕ) → HasNewline xs → IsSettled (digits_at gap ds xs)
digits-settled [] gap ds none = absurd none
digits-settled (x ∷ xs) gap ds (inl is) = subst (λ c. IsSettled (digits_at gap ds (c ∷ xs))) (sym is) (line-settled gap (decode_of ds) xs)
digits-settled (x ∷ xs) gap ds (inr later) =
    either (x == 10) _ _ (line-settled gap (decode_of ds) xs)
    (either (is_ascii_hexdigit x) _ _ (either (length ds == 32768) _ _ tt (digits-settled xs gap (ds ++ x ∷ []) later)) tt)

set-of-settled : (gap : ℕ) (r : Result (List ℕ) FromHexError) (rest : List ℕ) → IsSettled (set_of gap r rest)
set-of-settled gap (Ok octets) rest = tt
set-of-settled gap (Err e) rest = tt

set-settled : (xs : List ℕ) (gap : ℕ) (ds : List ℕ) → HasNewline xs → IsSettled (set_at gap ds xs)
set-settled [] gap ds none = absurd none
set-settled (x ∷ xs) gap ds (inl is) =
    subst (λ c. IsSettled (set_at gap ds (c ∷ xs))) (sym is) (either (length ds == 6) _ _ (set-of-settled gap (decode_of ds) xs) tt)
set-settled (x ∷ xs) gap ds (inr later) =
    either (x == 10) _ _ (either (length ds == 6) _ _ (set-of-settled gap (decode_of ds) xs) tt)
    (either (nat_le 6 (length ds)) _ _ tt (either (is_ascii_hexdigit x) _ _ (set-settled xs gap (ds ++ x ∷ []) later) tt))

content-settled : (xs : List ℕ) (gap : ℕ) → HasNewline xs → IsSettled (content_at gap xs)
content-settled [] gap none = absurd none
content-settled (x ∷ xs) gap (inl is) = subst (λ c. IsSettled (content_at gap (c ∷ xs))) (sym is) (digits-settled (10 ∷ xs) gap [] (inl refl))
content-settled (x ∷ xs) gap (inr later) = either (x == 64) _ _ (set-settled xs gap [] later) (digits-settled (x ∷ xs) gap [] (inr later))

gap-settled : (xs : List ℕ) (gap : ℕ) → HasNewline xs → IsSettled (gap_at gap xs)
gap-settled [] gap none = absurd none
gap-settled (x ∷ xs) gap (inl is) = subst (λ c. IsSettled (gap_at gap (c ∷ xs))) (sym is) tt
gap-settled (x ∷ xs) gap (inr later) =
    either (x == 32) _ _ (content-settled xs gap later)
    (either (is_ascii_digit x && nat_lt 0 gap && nat_le (10 * gap + (x - 48)) 1000000) _ _ (gap-settled xs (10 * gap + (x - 48)) later) tt)

frame-line-settled : (xs : List ℕ) → HasNewline xs → IsSettled (frame_line_at xs)
frame-line-settled [] none = absurd none
frame-line-settled (x ∷ xs) (inl is) = subst (λ c. IsSettled (frame_line_at (c ∷ xs))) (sym is) tt
frame-line-settled (x ∷ xs) (inr later) = either (is_ascii_digit x) _ _ (gap-settled xs (x - 48) later) tt

pub frame_lines_end : EndsAtNewline frame_line_at
frame_lines_end = λ octets has. not-open (frame_line_at octets) (frame-line-settled octets (has-newline octets has))

-- ---- block lines
block-of-settled : (control : Bool) (r : Result (List ℕ) FromHexError) (rest : List ℕ) → IsSettled (block_of_digits control r rest)
block-of-settled control (Ok octets) rest = tt
block-of-settled control (Err e) rest = tt

payload-settled : (xs : List ℕ) (control : Bool) (ds : List ℕ) → HasNewline xs → IsSettled (payload_at control ds xs)
payload-settled [] control ds none = absurd none
payload-settled (x ∷ xs) control ds (inl is) =
    subst (λ c. IsSettled (payload_at control ds (c ∷ xs))) (sym is) (either (length ds == 16) _ _ (block-of-settled control (decode_of ds) xs) tt)
payload-settled (x ∷ xs) control ds (inr later) =
    either (x == 10) _ _ (either (length ds == 16) _ _ (block-of-settled control (decode_of ds) xs) tt)
    (either (length ds == 16) _ _ tt (either (is_ascii_hexdigit x) _ _ (payload-settled xs control (ds ++ x ∷ []) later) tt))

space-settled : (xs : List ℕ) (control : Bool) → HasNewline xs → IsSettled (space_at control xs)
space-settled [] control none = absurd none
space-settled (x ∷ xs) control (inl is) = subst (λ c. IsSettled (space_at control (c ∷ xs))) (sym is) tt
space-settled (x ∷ xs) control (inr later) = either (x == 32) _ _ (payload-settled xs control [] later) tt

second-settled : (xs : List ℕ) (control : Bool) → HasNewline xs → IsSettled (second_at control xs)
second-settled [] control none = absurd none
second-settled (x ∷ xs) true (inl is) = subst (λ c. IsSettled (second_at true (c ∷ xs))) (sym is) tt
second-settled (x ∷ xs) false (inl is) = subst (λ c. IsSettled (second_at false (c ∷ xs))) (sym is) tt
second-settled (x ∷ xs) control (inr later) = either (x == cond control 48 49) _ _ (space-settled xs control later) tt

block-line-settled : (xs : List ℕ) → HasNewline xs → IsSettled (block_line_at xs)
block-line-settled [] none = absurd none
block-line-settled (x ∷ xs) (inl is) = subst (λ c. IsSettled (block_line_at (c ∷ xs))) (sym is) tt
block-line-settled (x ∷ xs) (inr later) = either (x == 49) _ _ (second-settled xs true later) (either (x == 48) _ _ (second-settled xs false later) tt)

pub block_lines_end : EndsAtNewline block_line_at
block_lines_end = λ octets has. not-open (block_line_at octets) (block-line-settled octets (has-newline octets has))

-- ---- symbol lines
symbols-settled : (xs ds : List ℕ) → HasNewline xs → IsSettled (symbols_at ds xs)
symbols-settled [] ds none = absurd none
symbols-settled (x ∷ xs) ds (inl is) =
    subst (λ c. IsSettled (symbols_at ds (c ∷ xs))) (sym is) (either (is_width (length ds)) (Line (numbers_of ds) xs) _ tt tt)
symbols-settled (x ∷ xs) ds (inr later) =
    either (x == 10) _ _ (either (is_width (length ds)) (Line (numbers_of ds) xs) _ tt tt)
    (either (length ds == 1584) _ _ tt
    (either (is_digit x 16) _ _ (either (is_too_great (length ds) x) _ _ tt (symbols-settled xs (ds ++ x ∷ []) later)) tt))

pub symbol_lines_end : EndsAtNewline symbol_line_at
symbol_lines_end = λ octets has. not-open (symbol_line_at octets) (symbols-settled octets [] (has-newline octets has))

-- ---- frame text
text-of-settled : (r : Result (List ℕ) FromHexError) (rest : List ℕ) → IsSettled (text_of r rest)
text-of-settled (Ok frame) rest = tt
text-of-settled (Err e) rest = tt

text-settled : (xs ds : List ℕ) → HasNewline xs → IsSettled (text_at ds xs)
text-settled [] ds none = absurd none
text-settled (x ∷ xs) ds (inl is) = subst (λ c. IsSettled (text_at ds (c ∷ xs))) (sym is) (text-of-settled (decode_of ds) xs)
text-settled (x ∷ xs) ds (inr later) =
    either (x == 10) _ _ (text-of-settled (decode_of ds) xs)
    (either (is_ascii_hexdigit x) _ _ (either (length ds == 32768) _ _ tt (text-settled xs (ds ++ x ∷ []) later)) tt)

pub text_lines_end : EndsAtNewline text_line_at
text_lines_end = λ octets has. not-open (text_line_at octets) (text-settled octets [] (has-newline octets has))

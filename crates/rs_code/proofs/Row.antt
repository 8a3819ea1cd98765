-- One Horner row over the lanes, and lists that are filled place by place.
use Rattle.std.proofs.Common.{◌≡◌, ◌≢◌, ℕ, ◌+◌, ◌-◌, ◌<◌, ◌≤◌, ◌⊎◌, inl, inr, List, [], length, drop, get_or, replicate, sym, ap, ◌∙◌, subst, arith}
use Rattle.std.proofs.lemmas.List.{get_or-set_same, get_or-set_other, length-drop, nil_from_length}
use Rattle.std.proofs.lemmas.Bool.{cases_lt}
use Rattle.std.proofs.lemmas.Simd.{get_or-replicate}
use Rattle.std.proofs.Math.ListN.{set}
use Rattle.gf1024.specs.Symbol.{Symbol, gf, zero_symbol, sum_of, product_of, alpha}
use Rattle.gf1024.proofs.FieldLaws.{laws}
use Rattle.field_base.specs.Field.{power}
use Rattle.field_base.specs.Poly.{value}
use Rattle.gf_lanes.specs.Lanes.{EachLane}
use Rattle.rs_code.proofs.Encoder.{value_next}

-- one place more
pub put : (f : ℕ → Symbol) (list : List Symbol) (i : ℕ) (v : Symbol) → i < length list → v ≡ f i
    → ((k : ℕ) → k < i → get_or list k zero_symbol ≡ f k) → (k : ℕ) → k < i + 1 → get_or (set list i v) k zero_symbol ≡ f k
put f list i v less ev h k lt = split (cases_lt k i)
  where
    split : (k < i) ⊎ (i ≤ k) → get_or (set list i v) k zero_symbol ≡ f k
    split (inl l) = let ne : k ≢ i = omega arith in get_or-set_other list i k v zero_symbol ne ∙ h k l
    split (inr g) =
        let same : i ≡ k = omega arith in
        subst (λ z. get_or (set list i v) z zero_symbol ≡ f z) same (get_or-set_same list i v zero_symbol less ∙ ev)

pub nothing_after : (m : List Symbol) (n : ℕ) → length m ≤ n → drop n m ≡ []
nothing_after m n le = nil_from_length (drop n m) (omega (arith, length-drop n m))

pub sums_first : (word sums : List Symbol) (z : Symbol) (j : ℕ) → j < 32 → z ≡ zero_symbol
    → sums ≡ replicate 32 z → get_or sums j zero_symbol ≡ value gf (drop (length word - 0) word) (power gf alpha j)
sums_first word sums z j less ez e =
    ap (λ l. get_or l j zero_symbol) e ∙ get_or-replicate 32 j z zero_symbol less ∙ ez
    ∙ sym (ap (λ l. value gf l (power gf alpha j)) (nothing_after word (length word - 0) (omega arith)))

pub sums_next : (word sums steps new : List Symbol) (i : ℕ) (c : Symbol) → i < length word
    → c ≡ get_or word (length word - 1 - i) c → EachLane (λ x y. sum_of (product_of x y) c) sums steps new
    → ((j : ℕ) → j < 32 → get_or steps j zero_symbol ≡ power gf alpha j)
    → ((j : ℕ) → j < 32 → get_or sums j zero_symbol ≡ value gf (drop (length word - i) word) (power gf alpha j))
    → (j : ℕ) → j < 32 → get_or new j zero_symbol ≡ value gf (drop (length word - (i + 1)) word) (power gf alpha j)
sums_next word sums steps new i c less ec h hs hv j lt =
    let s = get_or sums j zero_symbol in
    let x = power gf alpha j in
    let at = length word - 1 - i in
    h.each j lt ∙ ap (λ z. sum_of (product_of s z) c) (hs j lt) ∙ laws.add_comm (product_of s x) c
    ∙ ap (sum_of c) (laws.mul_comm s x)
    ∙ value_next word x c s i at (omega arith) less ec (hv j lt)

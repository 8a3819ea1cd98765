use Rattle.std.proofs.Common.{◌≡◌, ℕ, ◌+◌, ◌-◌, ◌*◌, ◌/◌, ◌%◌, ◌^◌, ◌≤◌, ap, sym, ◌∙◌, subst, arith}
use Rattle.std.proofs.lemmas.Nat.{shr-shr}
use Rattle.gf1024.specs.Symbol.{symbol}
use Rattle.lane_deskew.proofs.Vectors.{each_of_eight}
use Rattle.lane_deskew.proofs.pair.ten_bits.Goals as goal

abbrev Joins : ℕ → ℕ → ℕ → ℕ → Type 0
Joins n x y more = more ≤ 6 → (x / 2 ^ more + y * 2 ^ (8 - more) % 65536) % 1024 ≡ n / 2 ^ more % 1024

joins : (n x y more : ℕ) → x ≡ n % 256 → y ≡ n / 256 % 256 → Joins n x y more
joins n x y more e f = λ most. let same : more + 1 - 1 ≡ more = omega arith in
    subst (Joins n x y) same (each_of_eight (λ k. Joins n x y (k - 1)) (λ h. omega arith) (λ h. omega arith) (λ h. omega arith) (λ h. omega arith)
    (λ h. omega arith) (λ h. omega arith) (λ h. omega arith) (λ h. absurd (omega arith)) (more + 1) (omega arith) (omega arith)) most

pub returns-clause-symbol : goal.returns-clause-symbol
returns-clause-symbol c =
    let word : ℕ = c.args.first + 256 * c.args.second + 65536 * c.args.third in
    let shift = c.args.shift in
    let low = c.moved-low.ensures.octet word (omega arith) (omega arith) in
    let high = c.moved-high.ensures.octet (word / 256) (omega arith) (omega arith) in
    let swap : word / 2 ^ 8 / 2 ^ shift ≡ word / 2 ^ shift / 2 ^ 8 = shr-shr word 8 shift ∙ ap (λ k. word / 2 ^ k) (omega arith) ∙ sym (shr-shr word shift 8) in
    c.low.ensures
    ∙ ap symbol (joins (word / 2 ^ shift) c.moved-low.result c.moved-high.result c.args.more low (high ∙ ap (λ n. n % 256) swap) c.requires.1
    ∙ ap (λ n. n % 1024) (shr-shr word shift c.args.more))

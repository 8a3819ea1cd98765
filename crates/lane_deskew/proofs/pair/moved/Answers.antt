use Rattle.std.proofs.Common.{◌≡◌, ℕ, ◌+◌, ◌-◌, ◌*◌, ◌/◌, ◌%◌, ◌^◌, ◌<◌, subst, arith}
use Rattle.lane_deskew.proofs.Vectors.{each_of_eight}
use Rattle.lane_deskew.proofs.pair.moved.Goals as goal

abbrev Moves : ℕ → ℕ → ℕ → ℕ → Type 0
Moves n x y s = x * (256 / 2 ^ s) / 256 + y * (256 / 2 ^ s) % 256 ≡ n / 2 ^ s % 256

moves : (n x y s : ℕ) → s < 8 → x ≡ n % 256 → y ≡ n / 256 % 256 → Moves n x y s
moves n x y s low e f = let same : s + 1 - 1 ≡ s = omega arith in
    subst (Moves n x y) same (each_of_eight (λ k. Moves n x y (k - 1)) (omega arith) (omega arith) (omega arith) (omega arith)
    (omega arith) (omega arith) (omega arith) (omega arith) (s + 1) (omega arith) (omega arith))

pub returns-clause-octet : goal.returns-clause-octet
returns-clause-octet c = λ n e f. moves n c.args.first c.args.second c.args.shift c.requires e f

pub returns-clause-small : goal.returns-clause-small
returns-clause-small c =
    let is = moves (c.args.first + 256 * c.args.second) c.args.first c.args.second c.args.shift c.requires (omega arith) (omega arith) in omega (arith, is)

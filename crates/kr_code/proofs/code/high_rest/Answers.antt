use Rattle.std.proofs.Common.{◌≡◌, ◌+◌, ◌++◌, List, drop, length, replicate, ◌∙◌, subst, arith}
use Rattle.std.proofs.lemmas.List.{length-drop, length-append, get_or-drop, take_rest}
use Rattle.std.proofs.lemmas.Simd.{get_or-replicate, length-replicate}
use Rattle.gf1024.specs.Symbol.{Symbol, zero_symbol}
use Rattle.rs_code.specs.Code.{IsCodeword}
use Rattle.rs_code.proofs.Coded.{coded_is}
use Rattle.kr_code.proofs.Rest.{high_values}
use Rattle.kr_code.proofs.code.high_rest.Goals as goal

pub returns-clause-values : goal.returns-clause-values
returns-clause-values c = λ j less.
    let message = c.args.message.now in
    let all : List Symbol = replicate 514 c.low-high.result in
    let behind = drop 498 all in
    let parity = c.encode.new.parity in
    let part = c.copy_from_slice.new.self in
    let la : length all ≡ 514 = length-replicate {A = Symbol} 514 c.low-high.result in
    let lz : length behind ≡ 16 = omega (arith, la, length-drop 498 all) in
    let lp : length part ≡ 498 = omega (arith, c.copy_from_slice.ensures.len, la) in
    let lh : length (part ++ behind) ≡ 514 = omega (arith, lp, lz, length-append part behind) in
    let is : IsCodeword 30 544 (parity ++ (part ++ behind)) = ((coded_is (part ++ behind) (parity ++ (part ++ behind)) lh).0 c.encode.ensures.coded).0 in
    let same : part ≡ drop 16 message = c.copy_from_slice.ensures.after ∙ take_rest message 16 in
    high_values parity (drop 16 message) behind j c.encode.ensures.size (subst (λ t. IsCodeword 30 544 (parity ++ (t ++ behind))) same is)
    (λ k l. get_or-drop 498 all k zero_symbol ∙ get_or-replicate 514 (498 + k) c.low-high.result zero_symbol (omega (arith, lz)) ∙ c.low-high.ensures)
    (omega arith)

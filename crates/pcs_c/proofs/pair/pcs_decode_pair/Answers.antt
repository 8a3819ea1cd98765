use Rattle.std.proofs.Common.{◌≡◌, ◌∙◌, ℕ, Bool, true, false, List, [], ◌∷◌, sym, ap, ap₂}
use Rattle.std.specs.Prelude.{if◌then◌else◌, unwrap_or}
use Rattle.bit_lists.specs.Places.{flat}
use Rattle.pcs_watch.specs.declared.Report.{Report}
use Rattle.pcs_receive.specs.Reports.{is_good, report_of}
use Rattle.pcs_receive.specs.Received.{bits_of_pair}
use Rattle.pcs_receive.proofs.Goodness.{near_is_good}
use Rattle.pcs_c.specs.Pairs.{rows_in}
use Rattle.pcs_c.proofs.pair.pcs_decode_pair.Goals as goal

abbrev two : ℕ → ℕ → List ℕ
two a b = a ∷ b ∷ []

abbrev count_a : Report → ℕ
count_a r = unwrap_or r.a 255

abbrev count_b : Report → ℕ
count_b r = unwrap_or r.b 255

abbrev status_of : Bool → ℕ
status_of good = if good then 0 else 1

pub returns-then-are_near : goal.returns-then-are_near
returns-then-are_near c =
    let same : c.read_rows.new.rows ≡ rows_in c.args.beats.now = c.read_rows.ensures in
    let told : c.report-told.result ≡ report_of 0 (rows_in c.args.beats.now) = c.report-told.ensures ∙ ap (report_of 0) same in
    let good : is_good (rows_in c.args.beats.now) ≡ true =
    ap is_good (sym same) ∙ sym (near_is_good _ _ _ _ _ c.correct_pair.ensures) ∙ sym c.are_near.ensures ∙ c.if-are_near.true in
    record {
      wides_are = (ap flat c.write_wides.ensures.wides ∙ c.put_wides.ensures.bits ∙ ap bits_of_pair same, c.write_wides.ensures.tops);
      counts_are = ap₂ two (c.count_or_none.ensures ∙ ap count_a told) (c.count_or_none-2.ensures ∙ ap count_b told);
      wrong_is = ap (λ (r : Report). r.wrong) told;
      status_is = sym (ap status_of good);
    }

pub returns-else-are_near : goal.returns-else-are_near
returns-else-are_near c =
    let same : c.read_rows.new.rows ≡ rows_in c.args.beats.now = c.read_rows.ensures in
    let told : c.report-told.result ≡ report_of 0 (rows_in c.args.beats.now) = c.report-told.ensures ∙ ap (report_of 0) same in
    let bad : is_good (rows_in c.args.beats.now) ≡ false =
    ap is_good (sym same) ∙ sym (near_is_good _ _ _ _ _ c.correct_pair.ensures) ∙ sym c.are_near.ensures ∙ c.if-are_near.false in
    record {
      wides_are = (ap flat c.write_wides.ensures.wides ∙ c.put_wides.ensures.bits ∙ ap bits_of_pair same, c.write_wides.ensures.tops);
      counts_are = ap₂ two (c.count_or_none.ensures ∙ ap count_a told) (c.count_or_none-2.ensures ∙ ap count_b told);
      wrong_is = ap (λ (r : Report). r.wrong) told;
      status_is = sym (ap status_of bad);
    }

-- The text of a line, column by column.
use Rattle.std.proofs.Common.{◌≡◌, ℕ, zero, suc, ◌+◌, List, [], ◌∷◌, ◌++◌, take, drop, Option, Some, None, sym, ◌∙◌, ap, subst, refl, append_assoc, append-nil, add-one}
use Rattle.std.specs.Prelude.{slice_get}
use Rattle.std.proofs.lemmas.List.{take-append-drop}
use Rattle.std.proofs.lemmas.List.Concat.{flat_map-append}
use Rattle.pcs_io.specs.Octets.{AppendsFront}
use Rattle.mac_columns.specs.declared.column.Column.{Column}
use Rattle.mac_columns.specs.Sending.{Sending, Stands, sending, sent}
use Rattle.block66.specs.Blocks.{block_of}
use Rattle.block66.specs.declared.Block.{Block}
use Rattle.pcs_top.specs.Texts.{block_line, column_text}
use Rattle.pcs_drive.specs.Writing.{Wrote, Puts, Stays, BreaksOff, BreaksOffBefore}
use Rattle.pcs_drive.proofs.WritingLemmas.{front-more}

pub column_text-append : (xs ys : List Column) → column_text (xs ++ ys) ≡ column_text xs ++ column_text ys
unfolding column_text
column_text-append xs ys = flat_map-append (λ c. block_line (block_of c)) xs ys

pub column_text-one : (column : Column) → column_text (column ∷ []) ≡ block_line (block_of column)
unfolding column_text
column_text-one column = append-nil (block_line (block_of column))

pub at-some : (xs : List Column) (n : ℕ) (x : Column) → Some x ≡ slice_get xs n → take (suc n) xs ≡ take n xs ++ x ∷ []
at-some [] zero x e = absurd (cc)
at-some [] (suc n) x e = absurd (cc)
at-some (y ∷ ys) zero x e = cc
at-some (y ∷ ys) (suc n) x e = ap (λ ts. y ∷ ts) (at-some ys n x e)

pub at-none : (xs : List Column) (n : ℕ) → None ≡ slice_get xs n → take n xs ≡ xs
at-none [] zero e = refl
at-none [] (suc n) e = refl
at-none (y ∷ ys) zero e = absurd (cc)
at-none (y ∷ ys) (suc n) e = ap (λ ts. y ∷ ts) (at-none ys n e)

-- whatever text stood before, that of the columns given stands behind it
pub record Putting (columns : List Column) (left : List Column) (before now : Option (List ℕ)) (old new : List ℕ) : Type 0 where
  pub given : ℕ
  pub stands : Stands left (record { columns = columns; given = given })
  pub wrote : Puts before old (column_text (take given columns)) now new

no-columns : (columns : List Column) (text : List ℕ) → text ++ column_text (take 0 columns) ≡ text
unfolding column_text
no-columns columns text = append-nil text

pub putting-start : (columns : List Column) (left : List Column) (before now : Option (List ℕ)) (old new : List ℕ)
    → Stands left (sending columns)
    → Stays before old now new → Putting columns left before now old new
putting-start columns left before now old new stands wrote = record {
  given = 0;
  stands = stands;
  wrote = λ start text w. subst (λ t. Wrote start now t new) (sym (no-columns columns text)) (wrote start text w);
}

-- one column more
pub putting-column : (columns : List Column) (left rest : List Column) (before mid now : Option (List ℕ))
    (old pending new octets : List ℕ) (column : Column) (block : Block)
    → Putting columns left before mid old pending
    → ((h : Sending) → Stands left h → Some column ≡ slice_get h.columns h.given)
    → ((h : Sending) → Stands left h → Stands rest (sent h (Some column)))
    → block ≡ block_of column → octets ≡ block_line block
    → Puts mid pending octets now new
    → Putting columns rest before now old new
putting-column columns left rest before mid now old pending new octets column block p at on is line wrote = record {
  given = p.given + 1;
  stands = on (record { columns = columns; given = p.given }) p.stands;
  wrote = λ start text w.
      let more : column_text (take p.given columns) ++ octets ≡ column_text (take (p.given + 1) columns) =
      ap (λ t. column_text (take p.given columns) ++ t) (line ∙ ap block_line is ∙ sym (column_text-one column))
      ∙ sym (column_text-append (take p.given columns) (column ∷ []))
      ∙ ap column_text (sym (at-some columns p.given column (at (record { columns = columns; given = p.given }) p.stands)) ∙ ap (λ n. take n columns) (sym (add-one p.given))) in
      subst (λ t. Wrote start now t new) (append_assoc text (column_text (take p.given columns)) octets ∙ ap (λ t. text ++ t) more)
      (wrote start (text ++ column_text (take p.given columns)) (p.wrote start text w));
}

-- all columns are given
pub putting-end : (columns : List Column) (left : List Column) (before now : Option (List ℕ)) (old new : List ℕ)
    → Putting columns left before now old new
    → ((h : Sending) → Stands left h → None ≡ slice_get h.columns h.given)
    → Puts before old (column_text columns) now new
putting-end columns left before now old new p at start text w =
    subst (λ cs. Wrote start now (text ++ column_text cs) new) (at-none columns p.given (at (record { columns = columns; given = p.given }) p.stands)) (p.wrote start text w)

-- a write failed
pub putting-failed : (columns : List Column) (left : List Column) (before mid now : Option (List ℕ)) (old pending : List ℕ)
    → Putting columns left before mid old pending
    → BreaksOffBefore mid pending now
    → BreaksOff before old (column_text columns) now
putting-failed columns left before mid now old pending p failed start text w =
    let whole : column_text (take p.given columns) ++ column_text (drop p.given columns) ≡ column_text columns =
    sym (column_text-append (take p.given columns) (drop p.given columns)) ∙ ap column_text (take-append-drop p.given columns) in
    subst (AppendsFront start now) (append_assoc text (column_text (take p.given columns)) (column_text (drop p.given columns)) ∙ ap (λ t. text ++ t) whole)
    (front-more start now (text ++ column_text (take p.given columns)) (column_text (drop p.given columns)) (failed start (text ++ column_text (take p.given columns)) (p.wrote start text w)))

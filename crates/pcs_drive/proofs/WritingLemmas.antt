-- Text of which a part isn't written yet.
use Rattle.std.proofs.Common.{◌≡◌, ℕ, ◌+◌, ◌≤◌, List, [], ◌++◌, take, length, Option, Some, None, sym, subst, ◌∙◌, ap, refl, append_assoc, append-nil, length-append, arith, Result, Ok, Err}
use Rattle.std.proofs.Math.Seq.{take-append-add}
use Rattle.std.proofs.lemmas.List.{take-append-le}
use Rattle.std.specs.Prelude.{IfSome}
use Rattle.std.specs.Io.KnownBytes.{Appends}
use Rattle.pcs_io.specs.Octets.{AppendsFront}
use Rattle.pcs_io.proofs.Told.{appends-append, appends-none}
use Rattle.pcs_drive.specs.Writing.{Wrote, Longer, StaysInFront, Extends}

pub wrote-start : (start : Option (List ℕ)) → Wrote start start [] []
wrote-start start = record { written = []; appended = appends-none start; joined = refl }

pub wrote-none : (start : Option (List ℕ)) (text pending : List ℕ) → text ≡ [] → pending ≡ [] → Wrote start start text pending
wrote-none start text pending none empty = rw (none, empty) (wrote-start start)

-- all of a text is pending
pub wrote-pending : (start : Option (List ℕ)) (text pending : List ℕ) → text ≡ pending → Wrote start start text pending
wrote-pending start text pending is = record { written = []; appended = appends-none start; joined = is }

-- more text stands behind
pub wrote-more : (start now : Option (List ℕ)) (text pending more : List ℕ) → Wrote start now text pending → Wrote start now (text ++ more) (pending ++ more)
wrote-more start now text pending more w = record {
  written = w.written;
  appended = w.appended;
  joined = ap (λ t. t ++ more) w.joined ∙ append_assoc w.written pending more;
}

-- all that was pending is written
pub wrote-flushed : (start held now : Option (List ℕ)) (text pending : List ℕ) → Wrote start held text pending → Appends held now pending
    → Wrote start now text []
wrote-flushed start held now text pending w a = record {
  written = w.written ++ pending;
  appended = appends-append start held now w.written pending w.appended a;
  joined = w.joined ∙ sym (append-nil (w.written ++ pending));
}

pub wrote-all : (start now : Option (List ℕ)) (text : List ℕ) → Wrote start now text [] → Appends start now text
wrote-all None now text w = tt
wrote-all (Some before) None text w = absurd w.appended
wrote-all (Some before) (Some after) text w = w.appended ∙ ap (λ t. before ++ t) (sym (w.joined ∙ append-nil w.written))

-- a front of what was pending is written
pub wrote-front : (start held now : Option (List ℕ)) (text pending : List ℕ) → Wrote start held text pending → AppendsFront held now pending
    → AppendsFront start now text
wrote-front None held now text pending w a = tt
wrote-front (Some before) None now text pending w a = absurd w.appended
wrote-front (Some before) (Some held) None text pending w a = tt
wrote-front (Some before) (Some held) (Some after) text pending w a = (
  length w.written + a.0,
  omega (arith, a.1, ap length w.joined, length-append w.written pending),
  a.2 ∙ ap (λ h. h ++ take a.0 pending) w.appended ∙ append_assoc before w.written (take a.0 pending)
      ∙ ap (λ t. before ++ t) (sym (ap (take (length w.written + a.0)) w.joined ∙ take-append-add w.written pending a.0)),
)

-- a front of a text is one of a longer text
pub front-more : (start now : Option (List ℕ)) (text more : List ℕ) → AppendsFront start now text → AppendsFront start now (text ++ more)
front-more None now text more a = tt
front-more (Some before) None text more a = tt
front-more (Some before) (Some after) text more a =
    let within : a.0 ≤ length text = a.1 in
    (a.0, omega (arith, a.1, length-append text more), a.2 ∙ ap (λ t. before ++ t) (rw take-append-le refl))

-- ---- what is held stays in front
pub longer-none : (held : Option (List ℕ)) → Longer held held
longer-none held = ([], appends-none held)

pub same-in-front : (held : Option (List ℕ)) → StaysInFront held held
same-in-front None = tt
same-in-front (Some xs) = ([], sym (append-nil xs))

pub longer-then : (a b c : Option (List ℕ)) → Longer a b → Longer b c → Longer a c
longer-then a b c l m = (l.0 ++ m.0, appends-append a b c l.0 m.0 l.1 m.1)

pub longer-in-front : (a b c : Option (List ℕ)) → Longer a b → StaysInFront b c → StaysInFront a c
longer-in-front None b c l t = tt
longer-in-front (Some xs) None c l t = absurd l.1
longer-in-front (Some xs) (Some ys) None l t = tt
longer-in-front (Some xs) (Some ys) (Some zs) l t = (l.0 ++ t.0, t.1 ∙ ap (λ h. h ++ t.0) l.1 ∙ append_assoc xs l.0 t.0)

pub extended : {T E : Type 0} (a b c : Option (List ℕ)) (result : Result T E) → Longer a b → Extends b c result → Extends a c result
extended a b c (Ok value) l m = longer-then a b c l m
extended a b c (Err error) l m = longer-in-front a b c l m

-- ---- a text that is written, whatever comes after it
abbrev pub WroteFirst : Option (List ℕ) → Option (List ℕ) → List ℕ → Type 0
WroteFirst start held text = (more : List ℕ) × Appends start held (text ++ more)

pub first-longer : (start held now : Option (List ℕ)) (text : List ℕ) → WroteFirst start held text → Longer held now → WroteFirst start now text
first-longer start held now text k l =
    (k.0 ++ l.0, subst (Appends start now) (append_assoc text k.0 l.0) (appends-append start held now (text ++ k.0) l.0 k.1 l.1))

pub first-all : (start held : Option (List ℕ)) (text pending : List ℕ) → pending ≡ [] → Wrote start held text pending → WroteFirst start held text
first-all start held text pending none w =
    ([], subst (Appends start held) (sym (append-nil text)) (wrote-all start held text (subst (Wrote start held text) none w)))

pub first-seen : (start held now : Option (List ℕ)) (text : List ℕ) → WroteFirst start held text → StaysInFront held now
    → IfSome start (λ before. IfSome now (λ after. (more : List ℕ) × (after ≡ before ++ (text ++ more))))
first-seen None held now text k s = tt
first-seen (Some xs) None now text k s = absurd k.1
first-seen (Some xs) (Some ys) None text k s = tt
first-seen (Some xs) (Some ys) (Some zs) text k s =
    (k.0 ++ s.0, s.1 ∙ ap (λ h. h ++ s.0) k.1 ∙ append_assoc xs (text ++ k.0) s.0 ∙ ap (λ t. xs ++ t) (append_assoc text k.0 s.0))

-- what stays in front of what was written since the start
pub first-stays : (start held now : Option (List ℕ)) (text all pending : List ℕ) → WroteFirst start held text → StaysInFront held now → Wrote start now all pending
    → WroteFirst start now text
first-stays None held now text all pending k s w = ([], tt)
first-stays (Some xs) None now text all pending k s w = absurd k.1
first-stays (Some xs) (Some ys) None text all pending k s w = absurd w.appended
first-stays (Some xs) (Some ys) (Some zs) text all pending k s w =
    (k.0 ++ s.0, s.1 ∙ ap (λ h. h ++ s.0) k.1 ∙ append_assoc xs (text ++ k.0) s.0 ∙ ap (λ t. xs ++ t) (append_assoc text k.0 s.0))

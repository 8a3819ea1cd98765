-- Records in front of some octets.
use Rattle.std.proofs.Common.{◌≡◌, ℕ, Bool, List, [], ◌∷◌, refl, sym, ap, ap₂, subst, ◌∙◌}
use Rattle.pcap_frames.specs.declared.number.Order.{Order}
use Rattle.pcap_frames.specs.Pcap.{RecordAt, Record, Open, HeaderAt, Whole, record_at, Begins, HasOneReading}

pub same-record : (a : RecordAt) (first second rest other : List ℕ) → a ≡ Record first rest → a ≡ Record second other → (first ≡ second) × (rest ≡ other)
same-record a first second rest other p q = (cc, cc)

pub same-header : (a : HeaderAt) (first second : Order) (rest other : List ℕ) → a ≡ Whole first rest → a ≡ Whole second other → (first ≡ second) × (rest ≡ other)
same-header a first second rest other p q = (cc, cc)

nothing : (order : Order) (short : Bool) (octets frame rest : List ℕ) → octets ≡ [] → record_at order short octets ≡ Record frame rest → ⊥
nothing order short octets frame rest none whole = let e : Open ≡ Record frame rest = ap (record_at order short) (sym none) ∙ whole in cc

one-reading : (order : Order) (short : Bool) (octets : List ℕ) (frames others : List (List ℕ)) → Begins order short octets frames [] → Begins order short octets others [] → frames ≡ others
one-reading order short octets [] [] b c = refl
one-reading order short octets [] (other ∷ others) b c = absurd (nothing order short octets other c.0 b c.1)
one-reading order short octets (frame ∷ frames) [] b c = absurd (nothing order short octets frame b.0 c b.1)
one-reading order short octets (frame ∷ frames) (other ∷ others) b c =
    let same = same-record _ _ _ _ _ b.1 c.1 in
    ap₂ (λ f fs. f ∷ fs) same.0 (one-reading order short b.0 frames others b.2 (subst (λ rest. Begins order short rest others []) (sym same.1) c.2))

pub has-one-reading : HasOneReading
has-one-reading octets short frames others r s =
    let same = same-header _ _ _ _ _ r.1.1 s.1.1 in
    one-reading r.0 short r.1.0 frames others r.1.2
    (subst (λ o. Begins o short r.1.0 others []) (sym same.0) (subst (λ rest. Begins s.0 short rest others []) (sym same.1) s.1.2))

-- An input in the grammar of `pcap` is turned into its text.
use Rattle.std.proofs.Common.{◌≡◌, ℕ, ◌^◌, ◌<◌, ◌⊎◌, inl, inr, Bool, true, false, List, length, refl, ap, subst, ◌∙◌}
use Rattle.pcs_io.specs.TextLines.{text_line_at}
use Rattle.pcs_io.specs.TextGrammar.{text_grammar}
use Rattle.pcap_frames.specs.Pcap.{pcap_octets}
use Rattle.pcs_drive.specs.Seen.{Seen, ReadFailed, WriteFailed}
use Rattle.pcs_drive.specs.Deciding.{Given}
use Rattle.pcs_drive.specs.declared.outcome.Outcome.TheVariants.{Done, NoMemory}
use Rattle.pcs_drive.proofs.Completing.{converted}
use Rattle.pcs_late.specs.Laws.{IsSettledPcap}
use Rattle.pcs_late.specs.PcapCommand.{PcapAnswers, IsPcapInput}
use Rattle.pcs_late.specs.Unpacking.{Unpacked}
use Rattle.pcs_late.specs.declared.pcap_outcome.PcapOutcome.{PcapOutcome}
use Rattle.pcs_late.specs.declared.pcap_outcome.PcapOutcome.TheVariants.{Usual}
use Rattle.pcs_late.proofs.FilesDecide.{one-way, stopped, stopped-done}

module _ (seen : Seen) (octets : List ℕ) (given : Given seen octets) (low : length octets < 2 ^ 40)
    (reads : ¬ ReadFailed seen) (writes : ¬ WriteFailed seen) where
  pub pcap-complete : (gap : ℕ) (short write : Bool) (outcome : PcapOutcome) → IsPcapInput short write octets → PcapAnswers gap short write seen outcome
      → (outcome ≡ Usual Done) ⊎ (outcome ≡ Usual NoMemory)
  pcap-complete gap short true outcome input (usual, is, inl c) =
      inl (is ∙ ap Usual (converted text_line_at text_grammar pcap_octets seen octets input.0 usual given input.1 low reads writes c.converted))
  pcap-complete gap short true outcome input (usual, is, inr none) = inr (is ∙ ap Usual none.0)
  pcap-complete gap short false outcome input (inl c) =
      let is : IsSettledPcap outcome = record {
        reads = λ e. reads (subst (Unpacked gap short seen) e c).0;
        writes = λ e. writes (subst (Unpacked gap short seen) e c).0;
        memory = λ e. subst (Unpacked gap short seen) e c;
      } in
      inl (one-way short octets outcome (Usual Done) (stopped short octets gap seen outcome given c is)
      (stopped-done short octets octets input.0 refl low input.1))
  pcap-complete gap short false outcome input (inr none) = inr none.0

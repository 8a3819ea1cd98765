use Rattle.pcs_late.proofs.FilesDecide.{pcap-decides}
use Rattle.pcs_late.proofs.laws.pcap_decides.Goals as goal

pub returns : goal.returns
returns c = pcap-decides

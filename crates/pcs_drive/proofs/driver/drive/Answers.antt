use Rattle.pcs_drive.specs.FileKinds.{Captures, LevelFiles}
use Rattle.pcs_drive.proofs.driver.drive.Goals as goal

pub returns-in-Ok-clause-captures : goal.returns-in-Ok-clause-captures
returns-in-Ok-clause-captures g c = λ h header text start has put. c.in-Ok.ensures Captures h header text start has put

pub returns-in-Ok-clause-levels : goal.returns-in-Ok-clause-levels
returns-in-Ok-clause-levels g c = λ h header text start has put. c.in-Ok.ensures LevelFiles h header text start has put

pub returns-in-Err-clause-captures : goal.returns-in-Err-clause-captures
returns-in-Err-clause-captures g c = λ h header text start has put. c.in-Err.ensures Captures h header text start has put

pub returns-in-Err-clause-levels : goal.returns-in-Err-clause-levels
returns-in-Err-clause-levels g c = λ h header text start has put. c.in-Err.ensures LevelFiles h header text start has put

use Rattle.history.proofs.Consequences.{faults_are_walked}
use Rattle.history.proofs.laws.faults_are_walked.Goals as goal

pub returns : goal.returns
returns c = faults_are_walked

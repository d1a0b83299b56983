-- What a worker is lent may be read by several threads.
use denote.RattleType.{RattleType}
use denote.Ref.{NamedLft}
use denote.Param.Send.{IsSync, sendable}
use Rattle.std.proofs.Crossing.{crosses}
use Rattle.block_stage.proofs.Crossing.{Loop_field}
use Rattle.block_stage.proofs.CrossingStores.{Whole_field}
use Rattle.block_stage.proofs.CrossingProgram.{Program_field, Repeat_field}
use Rattle.block_stage.specs.contracts.job.Job as Job
use Rattle.block_stage.specs.declared.job.JobKey.{Ghosts}
use Rattle.block_stage.specs.contracts.stage.BlockWork as BlockWork

pub Job_field : (κ : NamedLft) → IsSync (Job.the_field κ).row
Job_field κ = search (Program_field, Loop_field, Repeat_field, Whole_field, crosses, sendable) depth 60 fits 20000

pub Work_row : (κ : NamedLft) (A : RattleType) (G : RattleType) (a : Ghosts A.Denot) → IsSync G → IsSync (BlockWork.the_row κ A G a)
Work_row κ A G a s = search (Job_field, sendable) depth 60 fits 20000

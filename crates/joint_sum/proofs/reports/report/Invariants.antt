use Rattle.std.proofs.Common.{◌≤◌, length}
use Rattle.joint_sum.specs.Reports.{TellsFirst}
use Rattle.joint_sum.proofs.reports.report.Given as goal

abbrev pub invariant-loop-process : goal.invariant-loop-process
invariant-loop-process l = record {
  within : l.process ≤ length l.policy.process_names;
  tells : TellsFirst l.policy l.told l.process l.text.items;
}

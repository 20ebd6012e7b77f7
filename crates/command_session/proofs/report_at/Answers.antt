-- `report_at` meets its contract, by what the report answers.
use Rattle.std.proofs.Common.{ap}
use Rattle.ledger.specs.Report.{report_values}
use Rattle.command_session.proofs.ReportLaws.{at-reported, at-refused}
use Rattle.command_session.proofs.report_at.Goals as goal

pub returns-in-Ok : goal.returns-in-Ok
returns-in-Ok c =
    at-reported c.args.out.now c.args.at c.requires c.report_as.ensures _ (ap report_values c.in-Ok.is)

pub returns-in-Err : goal.returns-in-Err
returns-in-Err c =
    at-refused c.args.out.now c.args.at c.requires c.report_as.ensures _ (ap report_values c.in-Err.is)

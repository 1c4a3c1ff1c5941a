use Rattle.mesh_report.proofs.Common.{on_ok_weaker, arith, hello_summary_line, tc_summary_line}
use Rattle.mesh_wire.specs.Summaries.{hello_summary_of, tc_summary_of}
use Rattle.mesh_report.proofs.Readings.{told_reads}
use Rattle.mesh_report.proofs.reading.put_reading.Goals as goal

pub returns-in-0-clause-text : goal.returns-in-0-clause-text
returns-in-0-clause-text c = on_ok_weaker c.put_read.result (λ wrote. (
  wrote.0,
  wrote.1,
  record {
    hello = λ kind. told_reads hello_summary_of hello_summary_line c.hello_summary.result c.hello_summary.ensures.reads.says c.hello_summary.ensures.reads.keeps c.hello_summary.ensures.reads.broken wrote.2;
    tc = λ kind. absurd (omega (arith, c.in-0.is, kind));
    other = λ no_hello no_tc. absurd (no_hello c.in-0.is);
  },
)) c.put_read.ensures.text

pub returns-in-1-clause-text : goal.returns-in-1-clause-text
returns-in-1-clause-text c = on_ok_weaker c.put_read-in-1.result (λ wrote. (
  wrote.0,
  wrote.1,
  record {
    hello = λ kind. absurd (omega (arith, c.in-1.is, kind));
    tc = λ kind. told_reads tc_summary_of tc_summary_line c.tc_summary.result c.tc_summary.ensures.reads.says c.tc_summary.ensures.reads.keeps c.tc_summary.ensures.reads.broken wrote.2;
    other = λ no_hello no_tc. absurd (no_tc c.in-1.is);
  },
)) c.put_read-in-1.ensures.text

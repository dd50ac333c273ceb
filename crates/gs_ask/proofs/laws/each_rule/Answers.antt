use Rattle.std.proofs.Common.{Contains}
use Rattle.gs_ask.specs.Stays.{Anything}
use Rattle.gs_ask.proofs.Runs.{run_refines, run_needs, run_wait_none, run_before}
use Rattle.gs_ask.proofs.Stays.{stays_same, stays_wait}
use Rattle.gs_ask.proofs.laws.each_rule.Goals as goal

pub returns-clause-answer_remains : goal.returns-clause-answer_remains
returns-clause-answer_remains g c = run_refines

pub returns-clause-waited_is_needed : goal.returns-clause-waited_is_needed
returns-clause-waited_is_needed g c = run_needs

pub returns-clause-waited_is_none : goal.returns-clause-waited_is_none
returns-clause-waited_is_none g c = run_wait_none

pub returns-clause-earlier_stands_before : goal.returns-clause-earlier_stands_before
returns-clause-earlier_stands_before g c = run_before

pub returns-clause-reads_what_it_asks : goal.returns-clause-reads_what_it_asks
returns-clause-reads_what_it_asks g c K m m' agree ns ks t h = stays_same (Contains K) m Anything Anything m' agree ns ks t h

pub returns-clause-waits_where_it_asks : goal.returns-clause-waits_where_it_asks
returns-clause-waits_where_it_asks g c K m ns ks t y h e = stays_wait (Contains K) m Anything Anything ns ks t y h e

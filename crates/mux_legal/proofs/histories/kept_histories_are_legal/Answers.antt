use Rattle.mux_legal.proofs.KeptAlone.{kept_histories_are_faultless}
use Rattle.mux_legal.proofs.RunsBorne.{runs_bear_out}
use Rattle.mux_legal.proofs.SessionsRecorded.{runs_are_recorded, runs_reach_sessions, sessions_are_recorded}
use Rattle.mux_legal.proofs.ToldRuns.{kept_runs_are_legal}
use Rattle.mux_legal.proofs.histories.kept_histories_are_legal.Goals as goal

pub returns-clause-legal : goal.returns-clause-legal
returns-clause-legal c = kept_runs_are_legal

pub returns-clause-recorded : goal.returns-clause-recorded
returns-clause-recorded c = runs_are_recorded

pub returns-clause-sessions : goal.returns-clause-sessions
returns-clause-sessions c = sessions_are_recorded

pub returns-clause-alone : goal.returns-clause-alone
returns-clause-alone c = kept_histories_are_faultless

pub returns-clause-reached : goal.returns-clause-reached
returns-clause-reached c = runs_reach_sessions

pub returns-clause-borne : goal.returns-clause-borne
returns-clause-borne c = runs_bear_out

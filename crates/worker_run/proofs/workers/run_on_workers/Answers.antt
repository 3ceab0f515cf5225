use Rattle.worker_run.proofs.workers.run_on_workers.Goals as goal

pub returns-clause-run : goal.returns-clause-run
returns-clause-run g c = c.run_all.ensures.run c.args.settings c.in-Ok.ensures.all

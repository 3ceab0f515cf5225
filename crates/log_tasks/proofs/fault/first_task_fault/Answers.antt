use Rattle.log_tasks.proofs.FirstFault.{first_cut, first_whole}
use Rattle.log_tasks.proofs.fault.first_task_fault.Goals as goal

pub returns-in-Cut : goal.returns-in-Cut
returns-in-Cut c = λ events knows. first_cut c.args.told.now events knows c.args.extent c.args.numbers.now c.args.rows.now c.requires.spawns c.in-Cut.is c.in_ok-found.found c.in_ok-found.ensures c.fault_of_graph-graph.result c.fault_of_graph-graph.ensures

pub returns-in-Whole : goal.returns-in-Whole
returns-in-Whole c = λ events knows.
    first_whole c.args.told.now events knows c.args.extent c.args.numbers.now c.args.rows.now c.requires.spawns c.in-Whole.is c.in_ok-found.found c.in_ok-found.ensures c.first_end_fault-own.result c.first_end_fault-own.ensures c.fault_of_graph-graph.result c.fault_of_graph-graph.ensures
    c.sooner_of.result c.sooner_of.ensures

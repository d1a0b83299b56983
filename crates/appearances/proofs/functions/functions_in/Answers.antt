use Rattle.appearances.proofs.functions.functions_in.Goals as goal

pub find_functions-requires : goal.find_functions-requires
find_functions-requires c = record { none = c.new-functions.ensures.empty; executing = c.requires }

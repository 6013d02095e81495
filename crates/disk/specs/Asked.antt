-- Of the code. The step that a note of a request stands for.
use Rattle.std.specs.Option.{option_map}
use Rattle.disk.specs.Steps.{Call, Step, step_of}
use Rattle.disk.specs.Steps.Call.{create, append, flush, rename, link, remove, make_folder, flush_folder}
use Rattle.disk.specs.Steps.Step.{saw, saw_folder}
use Rattle.disk.specs.declared.log.Asked.{Asked}
use Rattle.disk.specs.declared.log.Asked.TheVariants.{Create, Append, Flush, Rename, Link, Remove, MakeFolder, FlushFolder}
use Rattle.disk.specs.declared.log.Note.{Note}
use Rattle.disk.specs.declared.log.Note.TheVariants.{Called, Saw, SawFolder}

-- the call that was asked for
abbrev pub call_of : Asked → Call
call_of (Create path) = create path.now
call_of (Append octets) = append octets.now
call_of Flush = flush
call_of (Rename from to) = rename from.now to.now
call_of (Link from to) = link from.now to.now
call_of (Remove path) = remove path.now
call_of (MakeFolder path) = make_folder path.now
call_of (FlushFolder path) = flush_folder path.now

-- the step
abbrev pub noted : Note → Step
noted (Called asked answer) = step_of answer (call_of asked)
noted (Saw path found) = saw path.now (option_map (λ octets. octets.now) found)
noted (SawFolder path) = saw_folder path.now

-- What the private functions of this crate promise, where it is no definition of the others (for RULES 14).
use Rattle.std.specs.Prelude.{List, [], ℕ, Option, Some, None, Result, Ok, Err}
use Rattle.words.specs.Words.{Told, refused, gives}
use Rattle.frame.specs.Standard.{no_frame}
use Rattle.command.specs.Positions.{filled}
use Rattle.command.specs.declared.Response.TheVariants as Hosting
use Rattle.faults.specs.Fault.{sent}
use Rattle.faults.specs.Sender.{dm_rv_id, fault_at, replacing}
use Rattle.faults.specs.Requests.{Asks, other, faults_of}
use Rattle.faults.specs.Promises.{Stepping, Requesting, number_of_not_heard}
use Rattle.faults.specs.declared.Sender.{Sender}
use Rattle.faults.specs.declared.Stepped.{Stepped}
use Rattle.faults.specs.declared.Response.{Response}
use Rattle.faults.specs.declared.NotHeard.{NotHeard}
use Rattle.faults.specs.declared.Requested.{Requested}
use Rattle.faults.specs.declared.Replied.{Replied}

abbrev pub Meant : Type 0
Meant = Result (Option ℕ) NotHeard

abbrev pub told_meant : Meant → Told Asks
told_meant (Ok (Some destination)) = gives (faults_of destination)
told_meant (Ok None) = gives other
told_meant (Err why) = refused (number_of_not_heard why)

-- the DM_RV of a place, which is due again a period later
abbrev pub sent_at : ℕ → ℕ → Sender → Stepped
sent_at at address later =
    record {
      sender = replacing later at (sent (fault_at at later));
      answer = Ok (Some at);
      id = dm_rv_id address;
      bytes = (fault_at at later).bytes;
    }

-- an answer with nothing beside it

abbrev pub bare_stepped : Sender → Stepping → Stepped
bare_stepped s answer = record { sender = s; answer = answer; id = no_frame.id; bytes = no_frame.bytes }

abbrev pub bare_requested : Sender → Requesting → Requested
bare_requested s answer = record { sender = s; answer = answer; id = no_frame.id; bytes = no_frame.bytes }

-- an answer with the DM_RV that is to be sent
abbrev pub answered_by : Sender → ℕ → List ℕ → Requested
answered_by s id bytes = record { sender = s; answer = Ok Response.Send; id = id; bytes = bytes }

abbrev pub without_host : Requested → Replied
without_host faults =
    record {
      faults = faults;
      host =
          record {
            answer = Ok Hosting.NothingToDo;
            positions = filled [];
            id = no_frame.id;
            bytes = no_frame.bytes;
          };
    }

-- What is left of a show for one part. Assumes nothing.
use Rattle.std.specs.Prelude.{ℕ, Bool, ◌&&◌, ◌||◌, List, ◌==◌}
use Rattle.isolation.specs.Request.{Request, part, turn_call, work_command}
use Rattle.part.specs.Sets.{bit}

-- a show's record as a request
abbrev pub request_of : List ℕ → Request
request_of bytes = record { place = 0; bytes = bytes; arg_room = 8; result_room = 4 }

-- whether a record of a show is left for the parts of the set u, of n parts: a granted turn call of one of them, or a work
-- command of one of them
abbrev pub is_left : ℕ → ℕ → List ℕ → ℕ → Bool
is_left n u bytes refusal =
    bit (part (request_of bytes)) u && ((turn_call (request_of bytes) && refusal == 0) || work_command n (request_of bytes))

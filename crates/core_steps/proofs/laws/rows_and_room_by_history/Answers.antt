use Rattle.core_steps.proofs.HistoryLemmas.{rows_by_history, room_by_history}
use Rattle.core_steps.proofs.laws.rows_and_room_by_history.Goals as goal

pub returns-clause-rows : goal.returns-clause-rows
returns-clause-rows c = rows_by_history

pub returns-clause-room : goal.returns-clause-room
returns-clause-room c = room_by_history

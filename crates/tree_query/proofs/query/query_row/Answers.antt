-- A row with a word for each live dot has room for all that are listed; for a shorter one they are counted first.
use Rattle.std.proofs.Common.{rules}
use Rattle.tree_query.proofs.Laws.Queries.{queried_many, queried_listed, room-live, room-counted}
use Rattle.tree_query.proofs.query.query_row.Goals as goal
use Rattle.tree_query.proofs.query.query_row.Goals.{else-room-state, then-room-state+else-room-hits}

pub returns : goal.returns
returns c = queried_listed _ _ _ _ _ _ _ _ c.list_hits.ensures
    (elim c.if-room-state.branch [
      | then-room-state+else-room-hits w ↦ room-counted _ _ _ _ _ _ _ w.count_hits-hits.ensures w.if-room-hits.false
      | else-room-state w ↦ room-live _ _ _ _ _ _ w.if-room-state.false
    ])

pub returns-then-room-hits : goal.returns-then-room-hits
returns-then-room-hits c = search (rules, queried_many)

-- The group is taken, then the chain dealt.
use Rattle.tree_insert.proofs.Laws.LeafSplit.{split_deals, split_done}
use Rattle.tree_insert.proofs.split.split_leaf.Goals as goal

pub deal_chain-requires : goal.deal_chain-requires
deal_chain-requires c = split_deals c.requires c.node_at-chain.ensures c.take_group-next.ensures.1

pub returns : goal.returns
returns c = (c.take_group-next.ensures.0, split_done _ _ c.node_at-chain.ensures c.take_group-next.ensures.1 c.deal_chain.ensures)

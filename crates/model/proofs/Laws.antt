-- The laws of the definitions, a file for each topic, in the order in which they rest on one another.
-- Tools:
--     Sums         of sums and the indicator
--     Lists        of lists joined and filtered
--     Trees        all dots of a tree, and sums over them
-- Dots, and the operations on the tree:
--     Dots         what an insert takes, a query lists and a remove takes
--     Query        the hits are a filter of all dots; how many nodes are opened
--     Cleanup      what it keeps; how soon it says no
--     Insert       what it keeps; the splits
--     Remove       what it takes out and keeps
--     Splitting    the splits needed, and refusal 7
--     Dealing      the chain that a deal gives a child
--     Freeing      the order of freed groups
--     Shapes       every call keeps a shape valid
-- The words:
--     Layout       its lengths; what a call leaves is a tree again
--     Entries      each node and each place has one entry
--     Memory       the layout and the word-by-word relation say the same
--     Places       a weight over all places is one over the dots in the tree
--     Opening      the opened count is the number of the nodes opened
--     Pattern      a memory has one shape; what is left by a call is fixed; refusals keep
-- Single calls:
--     Refusals     what is said of a refusal by its number
--     Calls        what each call leaves, by the cases of its rule
--     Listing      what the reading calls list
--     All          what an accepted all has answered
--     Batches      a batch is the fold of single operations
-- Tint patches:
--     Thresholds   the table; how many dots a tile gets
--     LayingSplits the splits of dots laid one after another
--     Laying       when they can be laid, and what is laid
--     Patch        the dots of a patch; it is laid whole, or refused
-- Lists of calls:
--     Book         how often a dot stands in it, and what it is told
--     Effects      what a call does to a tree, by its event
--     Runs         every list of calls has a run
--     Counts       the count of changes along a list; refusal 16 does not occur in a list of fewer than 2^64 calls
--     Tickets      THE THEOREM on tickets (§21.6)
--     Kept         what each call of a run keeps
--     Conditions   what a list must be, both ways round
--     Quiet        quiet calls change a tree by cleanups alone
--     Demand       THE THEOREM of §12
--     FewCalls     the theorem for lists of fewer than 2^64 calls, those made after the list among them
--     FullMask     the theorem for queries of all inks; masks
--     Grid         the total of a grid report is the sum of its counts, and worked out from the dots
--     Reports      what an accepted grid report says, also after every list of calls
--     WorkedRun    the theorem on one list of calls
pub mod Sums
pub mod Lists
pub mod Trees
pub mod Dots
pub mod Query
pub mod Cleanup
pub mod Insert
pub mod Remove
pub mod Splitting
pub mod Dealing
pub mod Freeing
pub mod Shapes
pub mod Layout
pub mod Entries
pub mod Memory
pub mod Places
pub mod Opening
pub mod Pattern
pub mod Refusals
pub mod Calls
pub mod Listing
pub mod All
pub mod Batches
pub mod Thresholds
pub mod LayingSplits
pub mod Laying
pub mod Patch
pub mod Book
pub mod Effects
pub mod Runs
pub mod Counts
pub mod Tickets
pub mod Kept
pub mod Conditions
pub mod Quiet
pub mod Demand
pub mod FewCalls
pub mod FullMask
pub mod Grid
pub mod Reports
pub mod WorkedRun

-- Facts of numbers, tests and links that know no table: deciding, counting, following links from node to node, and that a walk that ends
-- passes at most N nodes. They may use the notation of specs/ and its relation of reaching, and nothing else of this project.
pub mod Deciding
pub mod Logic
pub mod Counting
pub mod Following
pub mod Pigeonhole

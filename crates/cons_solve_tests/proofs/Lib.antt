mod Assignments
